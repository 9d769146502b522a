pub mod Bytes
pub mod ErrorsTo
pub mod FaultLines
pub mod FormattedAgain
pub mod GapsRead
pub mod KeptAgain
pub mod ReadTo
pub mod WroteEntries
