pub mod laws
pub mod Selecting
