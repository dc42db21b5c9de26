pub mod Insert
pub mod Replace
