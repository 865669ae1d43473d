pub mod Areas
pub mod Operations
pub mod Certificates
pub mod Jobs
pub mod Conversions
pub mod Selections
pub mod Version
