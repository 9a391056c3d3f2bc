pub mod Ended
pub mod Forms
pub mod Loads
pub mod Numbered
pub mod Unique
