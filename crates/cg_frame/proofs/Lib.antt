mod Buffered
mod Encoded
mod Laid
pub mod Loading
mod Parts
mod Read
mod Readers
mod Sealing
pub mod Standing
mod Words
