pub mod Consume
pub mod Errors
