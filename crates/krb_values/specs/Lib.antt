pub mod Faults
pub mod Parses
pub mod Tickets
