pub mod AliveLemmas
pub mod BlockLemmas
pub mod CoverLemmas
pub mod EventLemmas
pub mod MarkLemmas
pub mod RunLemmas
pub mod StayLemmas
pub mod TestLemmas
