pub mod Cut
pub mod Value
pub mod Front
pub mod Known
mod Lines
mod Causes
pub mod Poking
pub mod Filled
