pub mod Form
pub mod Frame
pub mod Command
pub mod Stages
pub mod Answer
pub mod Receiver
