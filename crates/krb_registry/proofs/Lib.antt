pub mod Lookups
pub mod Names
pub mod Orders
pub mod Searches
