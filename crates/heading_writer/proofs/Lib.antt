pub mod Answers
pub mod RoundTrips
pub mod Unique
