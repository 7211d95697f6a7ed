pub mod Phases
pub mod Deliveries
