mod Walks
pub mod Writes
mod Listings
mod Chosen
pub mod Taken
mod Told
pub mod Keys
