pub mod TableStep
pub mod Arriving
