mod Walk
pub mod Standing
pub mod Feeding
