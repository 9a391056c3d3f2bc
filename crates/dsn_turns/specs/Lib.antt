pub mod Turns
pub mod Turning
pub mod Moves
pub mod Wides
