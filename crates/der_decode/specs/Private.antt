pub mod Windows
pub mod Signs
pub mod Leaves
pub mod Newest
pub mod Showing
pub mod Bodies
pub mod Places
