pub mod Fields
pub mod Said
pub mod Told
