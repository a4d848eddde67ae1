pub mod Cases
pub mod Sets
pub mod OpenField
pub mod Claimed
pub mod Meaning
