pub mod Exchanges
pub mod Holes
pub mod Listings
