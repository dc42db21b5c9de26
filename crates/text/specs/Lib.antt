pub mod Utf8
pub mod Machine
pub mod Tables
