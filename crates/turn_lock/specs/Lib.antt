pub mod Lists
pub mod Standing
pub mod Remembering
pub mod Steps
pub mod Sittings
pub mod Closed
