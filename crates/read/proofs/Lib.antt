pub mod Arrays
pub mod Taking
pub mod Tests
pub mod Thens
