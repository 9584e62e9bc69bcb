pub mod OneStep
pub mod Promised
pub mod Fold
pub mod WhyRun
pub mod OneCommand
pub mod Places
pub mod TwoRuns
