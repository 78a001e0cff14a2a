use Rattle.std.proofs.Common.{◌≡◌, ◌≢◌, length, take}
use Rattle.std.specs.List.{flat_map}
use Rattle.program.specs.Lists.{Each}
use Rattle.tree.specs.Trees.{definition_tree}
use Rattle.singcheck.specs.Replays.{names_in}
use Rattle.singcheck.proofs.entries.entry_index.Given as goal

-- no method so far has the name, and this is their number
abbrev pub invariant-loop-item : goal.invariant-loop-item
invariant-loop-item l = record {
  counted : l.before ≡ length (flat_map (λ i. names_in l.text (definition_tree i.definition)) (take l.item-index l.item-items));
  others : Each (λ x. x ≢ l.entry) (flat_map (λ i. names_in l.text (definition_tree i.definition)) (take l.item-index l.item-items));
}
