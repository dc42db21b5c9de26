pub mod CheckLaws
pub mod AllLaws
