pub mod Ideal
pub mod Order
pub mod Turned
pub mod Puts
pub mod Firsts
