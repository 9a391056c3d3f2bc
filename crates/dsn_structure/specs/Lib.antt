pub mod Structures
pub mod Limits
pub mod LayerLists
pub mod FlipLists
pub mod InLists
pub mod AreaLists
pub mod Meaning
