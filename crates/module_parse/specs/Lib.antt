pub mod Spans
pub mod Classes
pub mod Reads
pub mod Readers
pub mod Ended
pub mod Parsed
