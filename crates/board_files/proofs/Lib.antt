pub mod Excluded
pub mod Loads
