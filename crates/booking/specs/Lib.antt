pub mod Sheet
pub mod Booking
