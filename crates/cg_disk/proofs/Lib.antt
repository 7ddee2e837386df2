pub mod Bytes
pub mod Recorded
pub mod Outcomes
pub mod Written
pub mod Back
pub mod Lost
pub mod Moments
