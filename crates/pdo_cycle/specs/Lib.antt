pub mod Payloads
pub mod Cycle
