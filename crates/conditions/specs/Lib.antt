pub mod Standing
pub mod Taking
pub mod Soundness
pub mod Digests
pub mod Unsound
