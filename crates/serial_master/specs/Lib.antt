pub mod Bases
pub mod Books
