pub mod GivenLaws
pub mod RightLaws
