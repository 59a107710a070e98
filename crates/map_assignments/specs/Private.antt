pub mod Placing
pub mod Building
