pub mod Fields
pub mod Table
pub mod Names
pub mod Near
pub mod inner
