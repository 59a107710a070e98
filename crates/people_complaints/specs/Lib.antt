pub mod Subjects
pub mod Complaints
pub mod Lines
pub mod Excerpts
pub mod Places
pub mod Paths
pub mod DocumentPaths
