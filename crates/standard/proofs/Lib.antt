pub mod Descriptions
pub mod Fields
pub mod Flags
pub mod Steps
pub mod Tables
