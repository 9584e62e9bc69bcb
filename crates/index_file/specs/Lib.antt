pub mod Numbered
pub mod Octets
pub mod Files
pub mod Seeking
pub mod Windows
pub mod Blocks
pub mod Words
