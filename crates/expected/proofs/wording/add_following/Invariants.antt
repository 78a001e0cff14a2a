use Rattle.std.proofs.Common.{◌≡◌, ◌++◌, map, drop}
use Rattle.std.specs.String.{string_bytes}
use Rattle.expected.specs.Expectations.{rest_of_items}
use Rattle.expected.proofs.wording.add_following.Given as goal

abbrev pub invariant-loop-i : goal.invariant-loop-i
invariant-loop-i l =
    string_bytes l.text ++ rest_of_items l.last (drop l.i (map (λ item. item.now) l.items))
    ≡ string_bytes l.fn.text ++ rest_of_items l.last (map (λ item. item.now) l.items)
