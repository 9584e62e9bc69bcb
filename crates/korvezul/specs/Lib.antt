pub mod Calling
pub mod Commanding
pub mod Runs
pub mod Version
pub mod Configurations
