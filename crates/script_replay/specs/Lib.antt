pub mod Scripts
pub mod Lines
pub mod Replays
pub mod Masters
