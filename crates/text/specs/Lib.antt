pub mod Text
pub mod Runs
pub mod Putting
pub mod Pieces
