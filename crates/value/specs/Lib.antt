pub mod Meaning
pub mod Standard
pub mod Codec
pub mod Fault
pub mod Order
pub mod Range
