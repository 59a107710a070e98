mod Firsts
mod Listing
mod Numerals
mod XmlTexts
pub mod Kept
pub mod IndexNumbers
pub mod Tables
