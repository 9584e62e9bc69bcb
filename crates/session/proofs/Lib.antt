pub mod Unsound
pub mod Settling
pub mod Sound
pub mod Written
pub mod Received
pub mod LiveMessages
pub mod Calm
