pub mod Barring
pub mod Fields
pub mod Head
pub mod Here
pub mod OneField
pub mod Tail
pub mod Whole
