mod Parts
pub mod Built
