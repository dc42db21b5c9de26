pub mod Restore
pub mod Restoring
