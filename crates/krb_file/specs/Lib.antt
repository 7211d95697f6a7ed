pub mod Faults
pub mod Fields
pub mod Names
pub mod FieldReaders
pub mod Items
pub mod Limits
pub mod inner
