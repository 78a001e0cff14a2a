pub mod Codes
pub mod Layout
pub mod Rule
pub mod Seats
pub mod Tokens
pub mod View
