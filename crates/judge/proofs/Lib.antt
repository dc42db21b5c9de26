pub mod RoomLaws
pub mod SlotLaws
