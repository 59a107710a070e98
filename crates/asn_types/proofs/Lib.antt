pub mod Chaining
pub mod Following
pub mod Inside
mod Making
mod SeenBounds
mod SaidLaws
pub mod SimpleLaws
pub mod Simpling
