pub mod Listers
pub mod StreamLines
pub mod MessageLines
