pub mod Answers
pub mod Unique
pub mod Conserving
pub mod Whole
pub mod Examples
