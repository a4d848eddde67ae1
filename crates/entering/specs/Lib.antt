pub mod Jobs
pub mod Rows
