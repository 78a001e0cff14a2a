pub mod Lost
pub mod Marks
