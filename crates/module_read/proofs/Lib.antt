mod OfTexts
mod Verdicts
mod Answering
pub mod Making
mod Names
pub mod Numbered
pub mod Readiness
pub mod Room
mod Standards
mod Worded
