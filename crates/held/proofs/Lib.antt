pub mod Boxed
pub mod Chaining
pub mod Holding
pub mod Lying
pub mod Rules
