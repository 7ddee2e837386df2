pub mod Spelled
mod Buffers
pub mod Whole
pub mod Reading
pub mod Opened
pub mod Growing
pub mod Compacted
pub mod Folding
pub mod Switching
pub mod Standing
pub mod Rooms
pub mod Cuts
pub mod Refused
