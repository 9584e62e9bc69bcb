pub mod Walk
pub mod Noted
pub mod Refusals
pub mod RoundTrip
pub mod Unread
pub mod Examples
