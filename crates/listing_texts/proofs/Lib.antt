pub mod Jobs
pub mod Listings
