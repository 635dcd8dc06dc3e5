pub mod Lent
pub mod Line
pub mod Text
pub mod Heard
