pub mod Spellings
pub mod Layers
pub mod FileReasons
pub mod UnreadReasons
