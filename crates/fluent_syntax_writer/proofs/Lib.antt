pub mod Arguments
pub mod EntrySteps
pub mod Escapes
pub mod Placeables
pub mod Splits
pub mod rules
pub mod joining
