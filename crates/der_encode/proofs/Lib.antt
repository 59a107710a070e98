pub mod Least
pub mod Sevens
pub mod Kids
pub mod Parts
