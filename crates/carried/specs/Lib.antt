pub mod Flats
pub mod Words
