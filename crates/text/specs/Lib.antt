pub mod Characters
pub mod Digits
pub mod Strings
pub mod Forms
pub mod Decimals
