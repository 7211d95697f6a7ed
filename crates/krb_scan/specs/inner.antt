pub mod Machine
pub mod Choices
pub mod Numbers
pub mod Outcomes
pub mod Paths
