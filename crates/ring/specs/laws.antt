pub mod Parts
pub mod Difference
