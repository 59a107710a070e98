pub mod Sorted
mod Numbering
mod Numbered
mod Making
mod FirstNamed
pub mod Soundness
mod Respelling
