pub mod Explained
pub mod Lines
pub mod Steps
pub mod Watched
