pub mod Types
pub mod Parts
pub mod Statements
pub mod Methods
pub mod Lists
pub mod Scopes
pub mod WellFormed
pub mod Programs
