pub mod Reading
pub mod Cutting
pub mod Taking
pub mod Ending
