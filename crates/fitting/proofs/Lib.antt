pub mod RecordLaws
pub mod RisingLaws
pub mod ChoiceLaws
pub mod SlotLaws
pub mod WalkLaws
