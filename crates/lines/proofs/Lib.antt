pub mod Words
pub mod Joins
pub mod Puts
pub mod Hearings
