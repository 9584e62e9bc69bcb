pub mod Bounds
pub mod Dhc
pub mod Read
