pub mod Lecom
pub mod Love
pub mod Lucid
pub mod Speaking
