pub mod KeytabResults
pub mod KeytabLayouts
pub mod KeytabSizes
pub mod KeytabWritten
pub mod CcacheWhole
pub mod CcacheResults
pub mod CcacheLayouts
