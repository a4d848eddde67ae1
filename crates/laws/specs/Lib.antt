pub mod Tests
pub mod Lists
pub mod Ascii
pub mod Refusals
