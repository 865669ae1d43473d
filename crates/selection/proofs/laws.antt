pub mod ProposalLaws
pub mod SelectLaws
pub mod SelectSound
pub mod PartLaws
pub mod Examples
pub mod FormerProposal
pub mod FormerSelection
pub mod IntervalExamples
