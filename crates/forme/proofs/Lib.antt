pub mod Showing
pub mod Unpacking
