pub mod Recorded
pub mod Spaced
pub mod Worked
