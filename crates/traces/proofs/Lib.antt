pub mod LineLemmas
pub mod ManyLemmas
pub mod NameLemmas
