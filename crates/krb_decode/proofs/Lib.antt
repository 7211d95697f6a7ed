mod CacheRuns
mod Findings
mod InputRuns
mod StreamParts
pub mod Keys
mod Sorted
mod Sorters
mod Walks
