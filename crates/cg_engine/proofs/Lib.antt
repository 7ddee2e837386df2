pub mod Begins
pub mod BorneOut
pub mod Crossing
pub mod Idle
pub mod Kept
pub mod Loads
pub mod Served
pub mod Stored
