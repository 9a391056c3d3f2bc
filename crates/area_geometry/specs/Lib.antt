pub mod Copper
pub mod Rings
pub mod Apart
pub mod Boxes
