pub mod Tests
pub mod Runs
pub mod Endings
pub mod Weights
pub mod Reading
pub mod Judged
