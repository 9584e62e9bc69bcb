pub mod LiveTable
pub mod LiveMarks
pub mod Live
