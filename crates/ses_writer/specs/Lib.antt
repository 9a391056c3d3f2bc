pub mod Routes
pub mod Library
pub mod Session
pub mod ByNet
pub mod Samples
