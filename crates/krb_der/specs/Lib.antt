pub mod Octets
pub mod Reasons
pub mod Scalars
pub mod Sizes
pub mod Hex
pub mod Puts
pub mod inner
