pub mod laws
pub mod Division
pub mod Nearest
