pub mod Packet
pub mod Reception
pub mod Octets
pub mod Broken
