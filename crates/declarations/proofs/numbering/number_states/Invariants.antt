use Rattle.std.proofs.Common.{◌≡◌, ℕ, List, ◌++◌, map, take, string_bytes}
use Rattle.declarations.specs.Labels.{AreLabels}
use Rattle.declarations.specs.Numbered.{counted_as}
use Rattle.program.specs.Parts.{state_model}
use Rattle.declarations.specs.Resolution.{numbered_states}
use Rattle.declarations.proofs.numbering.number_states.Given as goal

abbrev pub invariant-loop-i : goal.invariant-loop-i
invariant-loop-i l = record {
  labels : AreLabels l.labels (string_bytes l.names);
  states : (behind : List ℕ) → map (state_model (string_bytes l.names ++ behind)) l.numbered.items
      ≡ numbered_states l.before (map (counted_as l.labels.text.now) (take l.i l.states));
}
