pub mod Signs
pub mod Portions
pub mod OneRead
pub mod HeldOn
pub mod HeldText
pub mod Pieces
pub mod Parts
