pub mod Words
pub mod Firsts
pub mod Tables
pub mod Scoped
pub mod Seeds
