pub mod Parts
pub mod Receive
pub mod Stages
pub mod Rules
