mod Alike
pub mod Pieces
pub mod Reached
