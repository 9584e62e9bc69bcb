pub mod Holders
pub mod Accepted
pub mod Order
pub mod BareRecord
pub mod BareRow
pub mod Apart
