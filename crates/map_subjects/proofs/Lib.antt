pub mod Earlier
pub mod Finding
mod Marks
pub mod InOrder
