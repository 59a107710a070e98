pub mod States
pub mod Entering
pub mod Noting
pub mod Building
