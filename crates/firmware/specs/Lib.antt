pub mod Lent
pub mod Phases
pub mod Requests
pub mod Hearing
