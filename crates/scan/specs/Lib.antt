pub mod Distinct
pub mod Passing
