pub mod AmongLemmas
pub mod BraceLemmas
pub mod ItemLemmas
pub mod Picking
pub mod Trials
pub mod WordLemmas
