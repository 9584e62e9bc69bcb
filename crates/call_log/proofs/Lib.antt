pub mod Turns
pub mod Runs
pub mod Entries
pub mod Asking
pub mod Marks
