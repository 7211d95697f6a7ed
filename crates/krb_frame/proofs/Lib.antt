pub mod FrameContents
pub mod Lengths
pub mod DecoderFrames
pub mod Feeding
pub mod Ends
pub mod Refusals
pub mod GoingOn
pub mod Skips
pub mod Deliveries
mod Completing
mod Wholes
pub mod Calls
pub mod Partials
pub mod Announced
mod Offsets
