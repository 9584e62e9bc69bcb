pub mod Places
pub mod Table
pub mod Hints
pub mod Disorder
