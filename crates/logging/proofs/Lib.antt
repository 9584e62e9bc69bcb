pub mod Runs
pub mod Back
