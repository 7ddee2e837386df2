pub mod Names
pub mod Protocols
pub mod SyncEntries
pub mod Request
pub mod Commits
