pub mod FrontLemmas
pub mod EventLemmas
pub mod ScheduleLemmas
pub mod OnceLemmas
pub mod JournalLemmas
pub mod LineLemmas
pub mod NameLemmas
pub mod WorkedRows
