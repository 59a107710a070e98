pub mod Leaving
pub mod Ordering
pub mod Parts
pub mod Told
pub mod Varied
pub mod Working
