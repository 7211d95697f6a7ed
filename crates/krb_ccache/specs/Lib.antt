pub mod Spelling
pub mod Reading
pub mod Tickets
pub mod Streaming
pub mod Laws
pub mod Examples
