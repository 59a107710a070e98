pub mod Mentioned
pub mod NameTables
pub mod Tables
pub mod Keeping
pub mod Searching
