pub mod LeastRadius
