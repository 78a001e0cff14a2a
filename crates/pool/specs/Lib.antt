pub mod Rule
pub mod Counts
pub mod Owners
pub mod Rounds
pub mod Stints
