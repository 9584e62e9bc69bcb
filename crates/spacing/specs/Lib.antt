pub mod Reads
pub mod Labels
