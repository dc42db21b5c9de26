pub mod Save
pub mod Cases
