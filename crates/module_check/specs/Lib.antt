pub mod Elements
pub mod Judging
pub mod Known
pub mod Roles
