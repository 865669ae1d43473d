pub mod Table
pub mod Convert
pub mod Mirror
pub mod SeriesValue
pub mod Promise
pub mod InnerContracts
