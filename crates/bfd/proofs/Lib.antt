pub mod Says
pub mod RoundTrip
pub mod Earliest
pub mod Used
