pub mod Groups
pub mod Switching
pub mod Worked
pub mod Demand
