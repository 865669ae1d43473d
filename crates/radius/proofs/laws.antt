pub mod LeastLaws
pub mod SearchLaws
pub mod Examples
