pub mod Parts
pub mod Vetting
