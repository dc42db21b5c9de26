pub mod Records
pub mod Fit
