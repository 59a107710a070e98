pub mod Answering
pub mod Making
pub mod Private
pub mod Seen
pub mod Found
pub mod StandardsSeen
pub mod Spellings
pub mod Standards
