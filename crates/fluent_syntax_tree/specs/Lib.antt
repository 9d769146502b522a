pub mod Bytes
pub mod Text
pub mod Tree
pub mod Entry
pub mod Every
pub mod View
pub mod Spans
pub mod Kind
