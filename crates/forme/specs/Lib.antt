pub mod Formes
pub mod Held
pub mod Unpacks
pub mod Views
