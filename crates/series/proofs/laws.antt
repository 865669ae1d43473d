pub mod RowLaws
pub mod ConversionLaws
pub mod ConversionSound
pub mod MirroredConversion
pub mod Examples
pub mod FormerConversion
