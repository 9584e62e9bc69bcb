pub mod Failing
pub mod Shifting
pub mod Turning
pub mod Mending
pub mod Between
pub mod Keeping
pub mod Watching
