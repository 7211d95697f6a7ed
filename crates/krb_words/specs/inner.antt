pub mod Makes
pub mod Parts
pub mod Names
pub mod NotRead
pub mod Options
