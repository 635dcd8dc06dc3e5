pub mod Checked
pub mod Collected
