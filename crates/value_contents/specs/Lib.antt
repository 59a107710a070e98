pub mod Bounds
pub mod Made
pub mod Private
pub mod Reached
