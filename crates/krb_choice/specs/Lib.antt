pub mod Choices
pub mod Columns
pub mod Shown
pub mod Wanted
pub mod Lanes
pub mod Marked
pub mod Read
