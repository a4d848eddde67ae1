pub mod Outgoing
pub mod Going
