pub mod Own
pub mod Followed
pub mod Ungrouped
