pub mod Input
pub mod Main
