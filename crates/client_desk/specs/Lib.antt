pub mod Standings
pub mod Given
pub mod Seats
