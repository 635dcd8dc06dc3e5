pub mod Reading
pub mod Writing
pub mod Sequences
pub mod Packing
