pub mod Loads
pub mod Visiting
