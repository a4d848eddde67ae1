pub mod Kinds
pub mod Classes
pub mod Codes
pub mod Readings
pub mod Tails
pub mod Kept
