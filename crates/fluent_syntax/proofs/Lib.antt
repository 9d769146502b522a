mod Columns
pub mod FlatSteps
pub mod ErrorLemmas
pub mod SameAnswersLemmas
pub mod RoundTripLemmas
