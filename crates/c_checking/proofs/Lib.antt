pub mod ExplainedLaws
