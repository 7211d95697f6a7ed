-- What the parts of a record promise each other.
pub mod Items
pub mod Parts
pub mod Records
