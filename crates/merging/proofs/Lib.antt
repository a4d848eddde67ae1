pub mod Covers
pub mod Members
pub mod Clashes
pub mod Turns
