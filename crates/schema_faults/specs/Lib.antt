pub mod Faults
pub mod Limits
pub mod Reasons
pub mod Requirements
pub mod Shown
