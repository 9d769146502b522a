pub mod Flat
pub mod Lines
pub mod Errors
pub mod Recovered
pub mod SameAnswers
pub mod RoundTrip
