pub mod WordLemmas
pub mod ViewLemmas
pub mod CodeLemmas
pub mod RuleLemmas
pub mod SearchLemmas
pub mod IdLemmas
pub mod InternLemmas
pub mod ReadingLemmas
