pub mod Octets
pub mod Pairs
pub mod Going
pub mod Whole
pub mod Exactly
pub mod Agreement
pub mod Worked
pub mod Fronts
