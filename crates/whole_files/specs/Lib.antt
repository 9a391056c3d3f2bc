pub mod Words
pub mod Outside
pub mod Puts
pub mod Faults
pub mod Stops
