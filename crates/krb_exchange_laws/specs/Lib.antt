pub mod Events
pub mod Examples
pub mod Laws
