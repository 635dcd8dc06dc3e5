pub mod Exchanges
pub mod Rows
pub mod Requests
