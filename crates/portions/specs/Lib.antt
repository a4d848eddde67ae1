pub mod Usable
pub mod States
