pub mod Pieces
pub mod Short
pub mod WordLemmas
pub mod FewAsked
pub mod Joined
