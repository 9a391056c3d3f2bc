pub mod Reading
pub mod Files
pub mod Doors
pub mod Sitting
pub mod Seating
pub mod Texts
pub mod Ending
