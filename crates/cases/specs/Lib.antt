pub mod Cases
pub mod EachRule
pub mod Requested
pub mod Deliveries
