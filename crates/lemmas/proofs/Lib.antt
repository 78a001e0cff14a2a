pub mod Lists
pub mod Options
pub mod FirstPlaces
pub mod Bools
pub mod Orders
