pub mod Rising
pub mod Orderly
pub mod Numbers
pub mod Members
pub mod Demand
pub mod ByRule
pub mod Tuesday
