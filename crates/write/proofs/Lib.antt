pub mod Counts
pub mod Checksums
