pub mod Collected
pub mod Texts
pub mod FitItems
