pub mod Written
pub mod Unique
pub mod Examples
