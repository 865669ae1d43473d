pub mod laws
pub mod Answering
pub mod JobAnswering
pub mod SelectionAnswering
