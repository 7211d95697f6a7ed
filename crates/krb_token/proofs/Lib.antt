pub mod FoundInLayers
pub mod Frames
pub mod LayersOpened
pub mod Opens
pub mod Walks
