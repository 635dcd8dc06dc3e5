pub mod Form
pub mod Scans
pub mod Saved
pub mod Ranges
pub mod Entries
