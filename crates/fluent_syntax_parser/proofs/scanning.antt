pub mod LineEnds
pub mod NameTexts
pub mod Names
pub mod Ranges
pub mod Scans
pub mod StringBytes
