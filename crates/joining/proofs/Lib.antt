pub mod Cutting
pub mod Short
pub mod Portions
pub mod Unseen
pub mod Behind
pub mod Padded
pub mod Joins
pub mod Real
