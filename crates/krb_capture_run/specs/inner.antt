pub mod CaptureRuns
pub mod DecodedRuns
