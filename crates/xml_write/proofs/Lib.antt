pub mod Written
pub mod WrittenSpaces
pub mod Entries
pub mod Qualified
pub mod Telling
pub mod Finishing
mod Moving
pub mod Lists
pub mod Texts
pub mod Escapes
pub mod Parts
pub mod Table
pub mod Tags
pub mod Again
pub mod Trees
pub mod Document
