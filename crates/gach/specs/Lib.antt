pub mod Header
pub mod Kinds
pub mod Places
