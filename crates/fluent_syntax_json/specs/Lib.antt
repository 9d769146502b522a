pub mod Object
pub mod Form
pub mod Reading
pub mod Answer
pub mod Json
pub mod Writing
pub mod BodyWriting
