pub mod New
pub mod Read
