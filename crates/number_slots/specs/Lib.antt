pub mod Slots
pub mod Leasts
pub mod Sums
pub mod Places
