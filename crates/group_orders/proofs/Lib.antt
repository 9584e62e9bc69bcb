pub mod Meeting
pub mod Beside
pub mod Orders
