pub mod Leaves
pub mod Levels
pub mod Counting
pub mod Shape
pub mod Declaring
pub mod Keeping
pub mod Tagging
pub mod Truths
pub mod Walking
pub mod Rooting
pub mod Going
pub mod Lacking
pub mod Ordered
pub mod ByUses
mod Firsts
mod Fixing
