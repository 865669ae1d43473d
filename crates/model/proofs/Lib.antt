pub mod Refusing
pub mod laws
pub mod EndWords
pub mod IntegralWalk
pub mod EvaluationWalk
pub mod EvaluationBounds
pub mod RoundingWalk
