pub mod Limits
pub mod Shelves
