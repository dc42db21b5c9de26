pub mod PayloadLaws
pub mod CycleLaws
pub mod KeepLaws
