mod Converting
pub mod Apart
mod Numbers
