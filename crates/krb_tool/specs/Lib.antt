pub mod Paths
pub mod Starts
pub mod Listing
pub mod GoingOn
pub mod Messages
pub mod inner
pub mod Laws
pub mod MessageLines
