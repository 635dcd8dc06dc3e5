pub mod Request
pub mod Accepted
pub mod Askable
pub mod Frames
pub mod Step
