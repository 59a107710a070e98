pub mod KeptBox
pub mod ListedBox
pub mod GivenBox
pub mod Refusals
