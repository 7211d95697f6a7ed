pub mod Frames
pub mod Adding
pub mod Items
pub mod Within
pub mod Sorting
