mod Words
pub mod Segments
mod Bodies
pub mod Stored
mod States
pub mod Unique
