pub mod ConditionLemmas
pub mod ShownLemmas
pub mod TableLemmas
