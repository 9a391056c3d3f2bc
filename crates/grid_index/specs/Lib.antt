pub mod Cells
pub mod Levels
