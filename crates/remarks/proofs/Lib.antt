pub mod PieceLemmas
pub mod AroundLemmas
pub mod NameLemmas
