pub mod Heads
pub mod Next
pub mod Cuts
