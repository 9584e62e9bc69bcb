pub mod Turns
pub mod Traces
