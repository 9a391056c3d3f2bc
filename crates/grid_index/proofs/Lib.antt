pub mod CellLemmas
pub mod LevelLemmas
pub mod SearchLemmas
