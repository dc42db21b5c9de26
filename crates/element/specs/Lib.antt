pub mod Explain
pub mod Elements
pub mod Numbers
