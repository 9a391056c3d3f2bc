pub mod Fronts
pub mod Journals
pub mod Owns
pub mod Answering
pub mod Desking
