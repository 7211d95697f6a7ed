pub mod Listings
pub mod FirstRefusals
pub mod ListedPieces
pub mod Messages
pub mod KnownLengths
mod FaultPaths
pub mod MessageLines
