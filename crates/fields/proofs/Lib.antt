pub mod Reach
pub mod Meaning
pub mod Says
pub mod Places
pub mod Codes
pub mod LineKinds
pub mod Kept
