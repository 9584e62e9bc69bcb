pub mod Beginning
pub mod HandedOver
