pub mod Entries
pub mod Schedule
pub mod Tree
