pub mod Promises
pub mod Refusing
pub mod Leaving
