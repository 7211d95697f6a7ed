pub mod DecodedFrames
pub mod EncodedLines
pub mod WholeRuns
