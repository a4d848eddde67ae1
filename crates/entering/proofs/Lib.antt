pub mod Tests
pub mod Unique
pub mod Versions
pub mod Again
pub mod Held
pub mod Rows
