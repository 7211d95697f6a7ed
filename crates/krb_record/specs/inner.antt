-- What the parts of a record promise each other.
pub mod Strings
pub mod Flags
pub mod Cells
