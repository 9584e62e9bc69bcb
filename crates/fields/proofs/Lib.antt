pub mod Messages
pub mod OnTheLine
