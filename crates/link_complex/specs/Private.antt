pub mod Identities
pub mod Leading
