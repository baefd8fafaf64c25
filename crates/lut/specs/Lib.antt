pub mod Rows
pub mod Tested
pub mod Triplets
