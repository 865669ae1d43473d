pub mod Proposal
pub mod Select
pub mod Promise
