pub mod Unsound
pub mod Fading
pub mod Taken
pub mod Empties
pub mod Marks
pub mod Digests
pub mod Held
