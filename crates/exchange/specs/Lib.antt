pub mod Calls
pub mod Line
pub mod Premise
pub mod Demand
pub mod InC
pub mod Collected
