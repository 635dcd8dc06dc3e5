pub mod Laws
pub mod Fits
pub mod Memory
pub mod Collected
pub mod Wholes
pub mod Parts
