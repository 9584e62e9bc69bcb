pub mod Records
pub mod Raws
pub mod Lines
pub mod Typing
