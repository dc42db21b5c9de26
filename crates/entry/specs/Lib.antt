pub mod Model
pub mod Table
pub mod Rules
pub mod Judge
pub mod Find
pub mod Put
pub mod Encode
pub mod Same
