pub mod Order
pub mod Handed
