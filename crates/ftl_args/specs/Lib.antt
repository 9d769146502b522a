pub mod Options
pub mod Request
