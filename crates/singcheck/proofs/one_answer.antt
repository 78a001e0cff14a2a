pub mod EachLemmas
pub mod EachReplayLemmas
pub mod ExactLemmas
pub mod InsertLemmas
pub mod OneCheckLemmas
pub mod OneReplayLemmas
pub mod OnlyLemmas
pub mod SameLemmas
