pub mod Rests
pub mod Worlds
pub mod Steps
pub mod Events
pub mod Places
pub mod Replays
pub mod Laid
pub mod Same
