pub mod Vocabulary
pub mod Words
pub mod Telling
pub mod Searching
pub mod Questions
pub mod Sought
