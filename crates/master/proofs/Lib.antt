pub mod Requests
pub mod Frames
pub mod Steps
pub mod Forced
pub mod Examples
pub mod Computed
