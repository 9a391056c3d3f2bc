pub mod Counts
pub mod Forms
pub mod Lengths
pub mod States
