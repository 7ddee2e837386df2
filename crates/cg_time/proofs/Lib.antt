pub mod Ascending
pub mod Changed
pub mod Inserted
pub mod Removed
pub mod Found
pub mod Moments
