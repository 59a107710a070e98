pub mod Conversion
pub mod Restoring
pub mod ReservedWords
pub mod Taking
