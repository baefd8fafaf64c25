pub mod Edges
pub mod Held
pub mod Metrics
pub mod Sound
pub mod Tests
