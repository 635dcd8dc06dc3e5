pub mod Step
pub mod Place
pub mod Line
pub mod Store
