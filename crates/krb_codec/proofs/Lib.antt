pub mod Puts
pub mod Fitting
pub mod Copies
pub mod ViewValuesFit
