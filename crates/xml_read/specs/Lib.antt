pub mod Sound
pub mod Tokens
pub mod Contexts
pub mod Documents
pub mod Same
pub mod Reasons
pub mod Private
