-- What the parts of a run promise each other.
pub mod Adding
pub mod StreamParts
pub mod Sorter
