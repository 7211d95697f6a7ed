pub mod Captures
pub mod Decoded
pub mod inner
pub mod Laws
