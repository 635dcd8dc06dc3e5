pub mod Holding
pub mod Lent
pub mod Parted
pub mod Received
pub mod Standing
pub mod Stepped
