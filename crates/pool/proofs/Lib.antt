pub mod Shares
pub mod Places
pub mod Rounds
pub mod Puts
pub mod Benches
pub mod Gathers
pub mod Ends
