pub mod Written
pub mod Spelled
pub mod Examples
pub mod Opened
pub mod Json
pub mod JsonExamples
pub mod JsonLaws
pub mod JsonFiles
