pub mod Filling
pub mod Asking
pub mod Judging
pub mod Building
