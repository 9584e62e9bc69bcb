pub mod Forwarding
pub mod Fits
pub mod Laws
pub mod Courses
pub mod Orders
pub mod Strays
pub mod Answers
pub mod Worked
