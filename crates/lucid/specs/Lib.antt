pub mod Form
pub mod Value
pub mod Frame
pub mod Command
pub mod Stages
pub mod Answer
pub mod Receiver
pub mod Resets
