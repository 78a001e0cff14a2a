use Rattle.std.proofs.Common.{◌≢◌, map, take}
use Rattle.program.specs.Lists.{Each}
use Rattle.tree.specs.Trees.{method_tree}
use Rattle.singcheck.specs.Replays.{full_name}
use Rattle.singcheck.proofs.entries.index_among.Given as goal

-- no method so far has the name
abbrev pub invariant-loop-index : goal.invariant-loop-index
invariant-loop-index l = Each (λ x. x ≢ l.entry) (map (λ m. full_name l.text l.class (method_tree m)) (take l.index l.methods))
