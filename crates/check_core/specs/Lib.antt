pub mod Filings
pub mod Nearest
pub mod NearCosts
pub mod Nearby
pub mod CheckCosts
pub mod Checking
pub mod Changes
pub mod Tries
