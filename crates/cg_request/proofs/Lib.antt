mod Alone
pub mod KeptEntries
