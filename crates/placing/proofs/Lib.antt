pub mod InsertLaws
pub mod PlaceLaws
pub mod ActLaws
