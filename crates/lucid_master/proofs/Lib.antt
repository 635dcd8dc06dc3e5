pub mod Requests
pub mod Demands
pub mod Made
pub mod Values
