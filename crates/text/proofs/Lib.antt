pub mod Parsing
pub mod Reached
pub mod Feeds
pub mod Going
pub mod Finishing
pub mod Pieces
pub mod Numbering
