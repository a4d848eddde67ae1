pub mod Whole
pub mod Short
pub mod Portions
pub mod Held
