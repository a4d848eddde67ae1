pub mod Rows
pub mod ReadBack
pub mod Plain
pub mod AsFields
pub mod Silent
pub mod Examples
