pub mod Helds
pub mod Judging
pub mod Labels
pub mod Listings
pub mod Lists
pub mod Numbers
pub mod Walks
