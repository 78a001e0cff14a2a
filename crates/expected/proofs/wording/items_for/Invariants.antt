use Rattle.std.proofs.Common.{◌≡◌, ◌++◌, map, drop}
use Rattle.expected.specs.Grouping.{items_of}
use Rattle.expected.specs.declared.groups.TheConstants.{GROUPS}
use Rattle.expected.proofs.wording.items_for.Given as goal

abbrev pub invariant-loop-group : goal.invariant-loop-group
invariant-loop-group l =
    map (λ word. word.now) l.words.items ++ items_of (drop l.group-index GROUPS) l.left.items ≡ items_of GROUPS l.kinds
