pub mod entry_forms
pub mod expressions
pub mod patterns
pub mod readers
pub mod scanning
pub mod tilings
