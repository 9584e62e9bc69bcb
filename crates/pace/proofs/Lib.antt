pub mod Turns
pub mod Paces
pub mod Plain
