pub mod ByNumber
pub mod Sums
pub mod Under
pub mod Kept
pub mod Walks
