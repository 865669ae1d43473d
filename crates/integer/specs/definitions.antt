pub mod FractionRing
pub mod Rounding
pub mod Lists
