pub mod Designs
pub mod Draws
pub mod Picks
pub mod Scripts
