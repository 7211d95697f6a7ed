pub mod Listings
pub mod Writes
pub mod Laws
pub mod inner
