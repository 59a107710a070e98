pub mod Bits
pub mod Cursors
pub mod Reading
pub mod Codec
pub mod Sequences
pub mod Stopping
