pub mod Model
pub mod Summary
