pub mod Views
pub mod Lists
pub mod Every
pub mod EveryProps
pub mod Natural
pub mod Equal
pub mod Trimmed
