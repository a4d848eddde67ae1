pub mod Chosen
pub mod Rows
pub mod Derived
pub mod Items
pub mod Loops
