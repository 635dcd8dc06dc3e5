pub mod Choose
pub mod Buffer
pub mod Sum
pub mod Word
pub mod Length
