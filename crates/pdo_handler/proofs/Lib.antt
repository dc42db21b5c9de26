pub mod ConsumeLaws
pub mod EventLaws
