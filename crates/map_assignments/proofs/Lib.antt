mod Building
mod Taking
mod Members
mod Known
mod Models
mod Ordering
pub mod Allowed
mod Mapping
mod Numbers
pub mod Simples
pub mod Shapes
pub mod Marked
pub mod Resolving
pub mod ModulePlaces
pub mod Chains
mod Ordered
pub mod Formed
pub mod Free
pub mod Planned
pub mod Bodies
mod Unnamed
pub mod Whole
pub mod Once
pub mod SameSets
