pub mod Marks
pub mod Slices
