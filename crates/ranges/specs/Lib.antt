pub mod Between
pub mod Alike
pub mod Unranged
