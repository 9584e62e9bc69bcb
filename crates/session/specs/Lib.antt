pub mod Queries
pub mod Steps
pub mod Reception
pub mod Live
pub mod Soundness
pub mod Unsound
