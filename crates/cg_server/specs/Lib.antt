pub mod Address
pub mod CommandLine
pub mod Places
pub mod Unsent
pub mod Refusing
pub mod Ending
