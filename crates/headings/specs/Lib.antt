pub mod ItemTypes
pub mod HeadRules
pub mod Reading
