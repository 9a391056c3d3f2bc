pub mod Adds
pub mod Formed
pub mod Shapes
pub mod Segments
pub mod Weights
