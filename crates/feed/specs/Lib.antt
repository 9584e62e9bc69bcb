pub mod Feeding
pub mod Calling
pub mod Watching
