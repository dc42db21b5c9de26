pub mod ImageLaws
pub mod OfferLaws
pub mod WalkLaws
pub mod SaveLaws
pub mod RightLaws
pub mod TableLaws
pub mod ListLaws
