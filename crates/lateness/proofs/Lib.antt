pub mod Whole
pub mod HandedOver
