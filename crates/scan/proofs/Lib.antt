pub mod KeyMarks
pub mod Noted
pub mod RowPairs
pub mod Parted
pub mod GroupKeys
pub mod Scanned
