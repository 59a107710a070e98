pub mod Ascending
pub mod Existence
pub mod Filling
pub mod Finishing
pub mod Following
pub mod Inserting
pub mod Lending
pub mod Once
pub mod Standing
pub mod Told
pub mod Uniqueness
pub mod Varied
mod Declaring
mod Misfits
