pub mod Scopes
pub mod Hashes
