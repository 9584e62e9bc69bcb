pub mod Calling
pub mod Going
pub mod Turns
pub mod Watched
