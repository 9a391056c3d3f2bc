pub mod Lists
pub mod Views
pub mod Knowing
pub mod Claiming
pub mod Turning
pub mod Members
pub mod Closing
