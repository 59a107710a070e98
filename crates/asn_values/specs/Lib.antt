pub mod Ordering
pub mod Orders
pub mod Values
pub mod Private
