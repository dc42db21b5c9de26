pub mod Demand
pub mod Saying
pub mod First
pub mod Reasons
pub mod Lasting
pub mod Calls
pub mod Twelve
pub mod Ends
