pub mod Pumping
pub mod Failures
pub mod Watching
