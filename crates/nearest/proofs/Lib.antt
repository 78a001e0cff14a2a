pub mod DistanceLemmas
