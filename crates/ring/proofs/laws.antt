pub mod Polynomial
pub mod Solver
pub mod IntegerSolver
pub mod OrderedRingLaws
pub mod Order
pub mod PairLaws
