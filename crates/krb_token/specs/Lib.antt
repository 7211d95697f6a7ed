pub mod Opened
pub mod Items
pub mod Spnego
pub mod Gss
pub mod Tokens
pub mod Seen
pub mod Laws
