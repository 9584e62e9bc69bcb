pub mod Integers
pub mod Kept
pub mod Made
pub mod Joined
