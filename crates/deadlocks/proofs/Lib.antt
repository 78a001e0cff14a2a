pub mod DeadlockLemmas
pub mod LeadingLemmas
