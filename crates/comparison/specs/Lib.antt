pub mod Differences
pub mod Rest
pub mod Walk
pub mod Exactly
pub mod Agreement
pub mod Words
