pub mod Answered
pub mod Lengths
pub mod Uses
