pub mod Outcomes
pub mod Effects
pub mod Steps
pub mod Bits
pub mod Receiving
