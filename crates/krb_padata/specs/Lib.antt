pub mod Grammar
pub mod Types
pub mod PacRequest
pub mod ExtendedError
pub mod Examples
