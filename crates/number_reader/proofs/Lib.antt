pub mod Scanning
pub mod Pairs
pub mod Told
pub mod Halved
