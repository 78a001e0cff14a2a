pub mod ProgramLemmas
pub mod StepLemmas
pub mod RowLemmas
pub mod ScopeLemmas
pub mod GivenLemmas
pub mod KeptLemmas
pub mod NestedLemmas
pub mod ArgumentLemmas
pub mod PayloadLemmas
pub mod CallLemmas
pub mod SwitchLemmas
pub mod BackLemmas
pub mod BreachLemmas
pub mod RepeatLemmas
pub mod EndLemmas
pub mod TypeLemmas
mod SmallSteps
pub mod TransferLemmas
