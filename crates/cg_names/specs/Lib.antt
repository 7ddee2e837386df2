pub mod Codes
pub mod Generations
pub mod Grammar
pub mod Storage
