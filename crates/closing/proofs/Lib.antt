pub mod Cases
pub mod Sets
mod Within
pub mod Shutting
pub mod ByParts
