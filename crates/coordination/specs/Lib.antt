pub mod Carried
pub mod Tlvs
pub mod Message
pub mod Octets
pub mod Numbers
pub mod Plain
pub mod Refused
