pub mod Fingerprints
pub mod Happened
pub mod inner
