pub mod Columns
pub mod Soundness
pub mod Walks
