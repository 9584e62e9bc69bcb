pub mod Branches
pub mod AtPlace
