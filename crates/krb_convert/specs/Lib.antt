pub mod Decoding
pub mod Encoding
pub mod Conversions
pub mod Ends
pub mod inner
pub mod Laws
