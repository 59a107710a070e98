pub mod Plans
pub mod Planning
pub mod Naming
pub mod Mapped
pub mod Private
