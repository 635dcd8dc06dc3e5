pub mod Dialects
pub mod NoTemperature
