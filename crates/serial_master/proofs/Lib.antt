pub mod Lefts
pub mod Legals
pub mod Weighing
pub mod Taking
pub mod Keeping
