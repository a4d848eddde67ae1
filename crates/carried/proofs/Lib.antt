pub mod Back
pub mod Made
