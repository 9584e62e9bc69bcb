pub mod Figures
pub mod Accounts
