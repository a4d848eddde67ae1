pub mod Deriving
pub mod Asking
pub mod Whose
