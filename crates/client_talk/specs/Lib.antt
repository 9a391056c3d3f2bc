pub mod Inputs
pub mod Entries
pub mod Hears
pub mod Lines
pub mod Talks
pub mod Meets
