pub mod Lays
pub mod Outlines
pub mod Records
