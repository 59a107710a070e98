pub mod Pieces
pub mod Reading
pub mod Found
pub mod Reasons
pub mod QNames
pub mod Namespaces
pub mod Plain
pub mod Private
