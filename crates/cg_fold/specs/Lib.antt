pub mod Key
pub mod Renewed
pub mod Grouped
pub mod Shelf
pub mod Record
pub mod Durable
pub mod Snapshot
