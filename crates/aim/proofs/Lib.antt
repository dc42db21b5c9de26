pub mod RangeLaws
pub mod ClassLaws
