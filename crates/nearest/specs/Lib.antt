pub mod Distances
pub mod Nearest
pub mod Locals
