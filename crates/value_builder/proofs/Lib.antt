pub mod Counts
pub mod Parts
pub mod Putting
pub mod Summing
