pub mod Messages
pub mod Inputs
pub mod Captures
pub mod Streams
pub mod Caches
