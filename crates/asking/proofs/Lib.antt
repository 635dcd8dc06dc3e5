pub mod Hearings
pub mod Cards
pub mod Compared
pub mod Temperatures
pub mod Exactness
pub mod Bytes
pub mod Later
