pub mod Answered
pub mod Sending
pub mod Groups
pub mod Rows
pub mod Cases
pub mod Items
pub mod Job
pub mod Unique
