pub mod Entries
pub mod Reading
pub mod Octets
pub mod Noting
pub mod Refused
pub mod Unread
