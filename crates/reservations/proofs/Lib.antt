pub mod Pairs
pub mod Placed
pub mod Found
pub mod Put
pub mod Taken
pub mod SoFar
