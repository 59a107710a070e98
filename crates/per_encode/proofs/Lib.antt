pub mod Puts
pub mod Kids
pub mod Bits
pub mod Taken
