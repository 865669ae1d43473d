pub mod Degrees
pub mod Editions
pub mod InnerContracts
