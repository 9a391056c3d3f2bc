pub mod Feeding
pub mod OneFeed
