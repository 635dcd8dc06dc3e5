pub mod Commands
pub mod Frames
pub mod Writes
pub mod Laws
pub mod Fits
pub mod Probes
pub mod Receiver
pub mod Computed
