pub mod Ranges
pub mod Image
pub mod Readable
