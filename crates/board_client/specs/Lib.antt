pub mod Loads
pub mod Visits
pub mod Headline
