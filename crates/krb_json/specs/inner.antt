pub mod Sizes
pub mod Writing
pub mod Searching
pub mod Reading
pub mod Tickets
pub mod Scalars
