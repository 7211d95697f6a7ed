pub mod Holes
pub mod Spelling
pub mod Reading
pub mod Laws
pub mod Streaming
pub mod Examples
