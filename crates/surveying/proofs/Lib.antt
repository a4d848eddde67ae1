pub mod Ways
pub mod Barring
pub mod Tallies
pub mod Walks
pub mod Leading
pub mod Stepping
pub mod Counting
