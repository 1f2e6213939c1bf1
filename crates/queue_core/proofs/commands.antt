pub mod InPlaceLemmas
pub mod LegalLemmas
pub mod RunLemmas
pub mod RefusalLemmas
pub mod RoomLemmas
