pub mod Due
pub mod Answers
pub mod Laws
pub mod Records
pub mod Serving
