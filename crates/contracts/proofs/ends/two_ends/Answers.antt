use Rattle.contracts.proofs.EndLemmas.{held_always, never_longer, once_as_long}
use Rattle.contracts.proofs.ends.two_ends.Goals as goal

pub returns : goal.returns
returns c = record { held = held_always; bounded = never_longer; reached = once_as_long }
