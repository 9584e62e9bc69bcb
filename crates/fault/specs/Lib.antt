pub mod Identifiers
pub mod Tlvs
pub mod Message
pub mod Octets
pub mod Plain
pub mod Broken
