pub mod laws
pub mod Mapping
pub mod Reversal
pub mod Tests
pub mod Passes
pub mod Answering
