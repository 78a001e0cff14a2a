pub mod Expected
pub mod OpenBraces
pub mod KindWords
pub mod Grouping
pub mod Expectations
