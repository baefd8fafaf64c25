pub mod Chains
pub mod Components
