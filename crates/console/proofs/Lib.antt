pub mod Answers
pub mod Holding
pub mod Joins
pub mod Receipts
