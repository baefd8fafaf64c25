pub mod Answers
pub mod Arrays
pub mod Bytes
pub mod Errors
pub mod Reading
