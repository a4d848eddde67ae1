pub mod Job
pub mod Printing
