pub mod Ascii
pub mod Placing
mod Rows
pub mod PrintedBounds
pub mod Ranking
mod FaultRows
