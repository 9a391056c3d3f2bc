pub mod TableLemmas
pub mod SlotLemmas
pub mod LookLemmas
