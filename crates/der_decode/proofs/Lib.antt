pub mod Octets
pub mod Windows
pub mod Sevens
pub mod Signs
pub mod Filling
pub mod Contents
mod Newest
mod Types
mod Parts
mod Shows
mod Heading
mod Owning
mod Sequences
mod Choices
mod Items
mod Final
