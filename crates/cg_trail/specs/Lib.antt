pub mod Entries
pub mod Trails
