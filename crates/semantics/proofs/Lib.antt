pub mod Matching
pub mod Replaying
pub mod Running
pub mod Stacks
pub mod Standing
pub mod Stepping
