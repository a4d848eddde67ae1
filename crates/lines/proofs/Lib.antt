pub mod Lines
pub mod Reading
pub mod Searching
pub mod Offsets
pub mod Texts
