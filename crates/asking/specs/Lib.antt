pub mod Hearing
pub mod Made
pub mod Against
pub mod Steps
pub mod Claims
