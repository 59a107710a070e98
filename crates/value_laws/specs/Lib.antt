pub mod Statements
pub mod SoundItems
