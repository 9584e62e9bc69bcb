pub mod Tracing
pub mod Calling
pub mod Asking
pub mod Laws
