pub mod Mapped
pub mod Growth
pub mod Steps
pub mod Mixing
