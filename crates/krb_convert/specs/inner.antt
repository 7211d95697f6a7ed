-- What the parts of a conversion promise each other.
pub mod JsonLines
pub mod EncodedLines
pub mod WholeRuns
