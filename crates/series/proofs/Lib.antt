pub mod laws
pub mod MultipleWalk
pub mod TableTest
