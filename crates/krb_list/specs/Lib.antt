pub mod Keytabs
pub mod Configs
pub mod Ccaches
pub mod Laws
pub mod Examples
