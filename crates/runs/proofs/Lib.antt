pub mod HaltLemmas
pub mod TallyLemmas
pub mod TraceLemmas
