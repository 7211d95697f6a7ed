pub mod Plain
pub mod Laws
pub mod Listing
pub mod Messages
pub mod Records
pub mod Cells
pub mod Examples
pub mod Says
