pub mod Counting
pub mod Enumerations
pub mod FacetWords
pub mod InTurn
pub mod Soundness
pub mod Unions
