pub mod Words
pub mod Gauging
pub mod Held
