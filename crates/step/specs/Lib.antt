pub mod Requests
pub mod Stepping
pub mod Saying
pub mod Arriving
