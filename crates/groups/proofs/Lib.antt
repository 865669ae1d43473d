pub mod PairWalks
pub mod ConvolutionWalk
pub mod CorrelationWalk
pub mod PlaceSums
