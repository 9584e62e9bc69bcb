pub mod Searched
pub mod Passed
