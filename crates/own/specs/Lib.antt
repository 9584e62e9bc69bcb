pub mod Own
pub mod Records
