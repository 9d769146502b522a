pub mod ContinuesFrom
pub mod Carried
pub mod Fails
pub mod Gathers
pub mod Made
pub mod SameTrees
