pub mod OnlyLaws
pub mod TurnLaws
pub mod FitLaws
pub mod RestoreLaws
pub mod WalkLaws
pub mod CopyLaws
pub mod RestoringLaws
