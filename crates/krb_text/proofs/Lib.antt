pub mod Cells
pub mod Items
pub mod Judged
pub mod Parts
pub mod Records
pub mod Recorded
