pub mod Shown
pub mod Hidden
pub mod Exchanges
