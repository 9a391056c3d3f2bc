pub mod Words
pub mod Inputs
pub mod Loads
pub mod Stores
pub mod Headline
pub mod Checks
