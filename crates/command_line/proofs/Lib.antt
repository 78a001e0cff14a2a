pub mod AskLemmas
pub mod CommandLemmas
