pub mod Digits
mod Found
pub mod Greater
mod Scoped
pub mod Tables
