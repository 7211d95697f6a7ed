pub mod Covers
pub mod Fronts
pub mod Printed
pub mod Masked
