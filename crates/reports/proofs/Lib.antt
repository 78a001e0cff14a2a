pub mod CodeLemmas
pub mod OrderLemmas
pub mod SortLemmas
