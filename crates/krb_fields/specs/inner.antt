pub mod Nearness
pub mod Rows
pub mod Stripped
