pub mod AnswerOf
pub mod DeeperTiles
pub mod ErrorPlaces
pub mod PartsOfEntries
pub mod PartsOfNext
pub mod PartsOfTiling
pub mod Rests
pub mod TileForms
