pub mod Alike
pub mod Utf8Texts
pub mod Faultless
pub mod ToldExactly
