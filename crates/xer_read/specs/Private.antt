pub mod Given
pub mod Held
pub mod Slots
pub mod Keeping
pub mod Putting
pub mod Contents
pub mod Opened
