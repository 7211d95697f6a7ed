mod Kept
pub mod Marks
pub mod Columns
