pub mod Roots
pub mod Ranges
pub mod TurnLaws
pub mod MoveLaws
pub mod ShapeClauses
pub mod MovedLaws
