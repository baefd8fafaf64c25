pub mod Checksums
pub mod Errors
pub mod Meanings
pub mod Sinks
pub mod Sums
