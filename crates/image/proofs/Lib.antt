pub mod ReadLaws
pub mod RangeLaws
