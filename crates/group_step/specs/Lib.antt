pub mod GroupStepping
pub mod GroupSeeing
