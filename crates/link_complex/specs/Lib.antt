pub mod ComplexTypes
pub mod Content
pub mod ElementTypes
pub mod Seen
pub mod Uses
pub mod Private
