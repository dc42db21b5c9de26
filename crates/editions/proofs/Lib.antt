pub mod SharedLaws
pub mod CountLaws
