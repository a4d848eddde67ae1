pub mod Layouts
pub mod Described
pub mod Parts
pub mod Accounts
