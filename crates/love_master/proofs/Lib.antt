pub mod Shown
pub mod Errors
pub mod Written
pub mod Makes
