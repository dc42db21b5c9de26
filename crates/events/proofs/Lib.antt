pub mod RecordLaws
pub mod OutcomeLaws
pub mod ReceiveLaws
pub mod TellingLaws
