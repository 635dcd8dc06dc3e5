pub mod Codes
pub mod Handing
