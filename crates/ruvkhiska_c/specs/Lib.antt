pub mod Kept
pub mod Listed
pub mod Given
pub mod Pointing
pub mod Complaints
pub mod Spots
pub mod Statuses
