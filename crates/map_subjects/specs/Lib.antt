pub mod Subjects
pub mod Private
