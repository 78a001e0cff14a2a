pub mod BeginLemmas
pub mod Parts
