pub mod Utf8
pub mod Receiving
pub mod Gaining
pub mod Giving
pub mod Keeping
