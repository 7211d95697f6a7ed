pub mod Places
pub mod Runs
pub mod Windows
pub mod Differences
pub mod Founds
pub mod Keeping
pub mod Nearby
