pub mod Ends
pub mod Inputs
pub mod Lengths
pub mod Listables
