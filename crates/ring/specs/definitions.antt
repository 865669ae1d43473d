pub mod Ring
pub mod Integer
pub mod OrderedRing
pub mod Pairs
