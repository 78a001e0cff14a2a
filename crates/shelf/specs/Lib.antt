pub mod Shelves
pub mod SoFar
