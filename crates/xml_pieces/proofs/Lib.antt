pub mod Tools
pub mod Runs
pub mod Strips
pub mod Many
mod Marked
pub mod Cutting
pub mod Utf8
pub mod Ends
pub mod Numbers
pub mod References
pub mod Values
pub mod Attributes
pub mod Names
pub mod Spaces
pub mod Marks
pub mod ValueLaws
pub mod TagLaws
pub mod MarkupLaws
pub mod DeclarationLaws
pub mod PieceLaws
pub mod ReasonLaws
pub mod Facts
pub mod Fine
pub mod PlainLaws
pub mod AsciiNames
pub mod Spelled
pub mod Shutting
pub mod Lists
mod Spelling
mod InScope
mod Hashed
mod Repeated
