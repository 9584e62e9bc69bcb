pub mod Sights
pub mod Others
pub mod Own
pub mod Isolation
