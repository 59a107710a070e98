pub mod Clearing
pub mod Leading
pub mod Stepping
pub mod Tables
