pub mod laws
pub mod Halvings
