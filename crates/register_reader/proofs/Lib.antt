pub mod Standing
pub mod Laid
