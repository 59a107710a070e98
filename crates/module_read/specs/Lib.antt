pub mod Tells
pub mod Summary
pub mod Ready
