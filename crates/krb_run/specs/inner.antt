-- What the parts of a run promise each other.
pub mod RecordRuns
pub mod FileRuns
