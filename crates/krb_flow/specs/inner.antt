pub mod Runs
pub mod Stretches
pub mod Unequal
pub mod Founds
