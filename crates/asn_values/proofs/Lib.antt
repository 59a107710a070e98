pub mod Allowing
pub mod Counting
mod Judging
pub mod JustSet
mod Ordering
pub mod Placed
mod Rows
pub mod Slots
mod Spelled
pub mod Standards
