pub mod Unaligned
pub mod Fields
