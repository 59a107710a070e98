pub mod Telling
pub mod Private
pub mod Spaces
pub mod Written
pub mod Same
pub mod ReadBack
