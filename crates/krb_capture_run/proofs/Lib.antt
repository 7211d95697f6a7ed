pub mod FileRefusals
mod CaptureLines
mod DecodedLines
