pub mod RecordLaws
pub mod NumberLaws
