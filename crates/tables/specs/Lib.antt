pub mod Entries
pub mod Start
