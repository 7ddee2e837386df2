pub mod Accounts
pub mod Asked
pub mod Crossing
pub mod Written
