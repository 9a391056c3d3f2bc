pub mod Words
pub mod Ends
pub mod Lefts
pub mod Stages
pub mod Rows
