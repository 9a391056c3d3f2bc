pub mod Asks
pub mod Files
pub mod Founds
pub mod Sinks
pub mod Statuses
pub mod Tells
pub mod Tolds
pub mod Words
