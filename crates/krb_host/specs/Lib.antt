pub mod Around
pub mod Expanded
