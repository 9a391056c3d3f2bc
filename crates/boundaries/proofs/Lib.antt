pub mod Marks
pub mod RisingClients
pub mod Segments
pub mod Walked
pub mod Leasts
pub mod Kept
pub mod Nearness
pub mod Saved
