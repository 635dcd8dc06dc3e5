pub mod Requests
pub mod Unknowns
pub mod Codes
pub mod Hearings
