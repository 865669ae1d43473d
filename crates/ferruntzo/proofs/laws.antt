pub mod ScratchLaws
pub mod TightLaws
pub mod Examples
pub mod FormerAnswers
pub mod IntervalExamples
pub mod EditionExamples
pub mod ReportLaws
