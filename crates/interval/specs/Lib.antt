pub mod Spacing
pub mod Records
pub mod Pacing
pub mod Worked
