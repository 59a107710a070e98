pub mod Walked
pub mod Least
pub mod Rising
pub mod ShownLaws
pub mod Found
