pub mod Pacing
pub mod Calling
pub mod Laws
