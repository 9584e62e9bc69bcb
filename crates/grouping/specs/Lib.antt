pub mod Commands
pub mod Grouped
pub mod Asking
pub mod Bare
