pub mod Binding
pub mod Elements
pub mod Escapes
