pub mod Kids
pub mod Turned
