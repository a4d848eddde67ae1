mod Counting
pub mod Ten
pub mod Accounting
pub mod Parts
