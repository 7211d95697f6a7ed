pub mod Results
pub mod Fours
