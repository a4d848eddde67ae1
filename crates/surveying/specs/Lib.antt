pub mod Items
pub mod Model
