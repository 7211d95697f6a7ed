pub mod Parts
pub mod KeytabWriting
pub mod CcacheWriting
pub mod Examples
