pub mod Rule
pub mod Sizes
