pub mod Delivery
pub mod Model
