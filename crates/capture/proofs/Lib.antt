pub mod Typing
pub mod Digits
pub mod LineSaid
pub mod LineShort
pub mod Raws
pub mod Marks
pub mod Stores
