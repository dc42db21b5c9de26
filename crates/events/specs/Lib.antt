pub mod Receive
pub mod Telling
