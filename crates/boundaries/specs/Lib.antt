pub mod Boundaries
pub mod Touching
pub mod Costs
pub mod Marks
