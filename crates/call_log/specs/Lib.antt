pub mod Records
pub mod Reading
pub mod Runs
pub mod Entries
