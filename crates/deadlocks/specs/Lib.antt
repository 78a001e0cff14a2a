pub mod Deadlocks
pub mod GraphDeadlocks
pub mod Trials
