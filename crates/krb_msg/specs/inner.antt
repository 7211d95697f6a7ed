pub mod Values
pub mod Backs
pub mod MessagePrefixFree
pub mod RoundTrips
pub mod Kinds
pub mod Fields
pub mod Notes
