use Rattle.std.proofs.Common.{◌≡◌, take}
use Rattle.expected.specs.Expected.{IsExpected}
use Rattle.source.specs.declared.kinds.TheConstants.{ALL_KINDS}
use Rattle.expected.proofs.Picking.{HasPicked}
use Rattle.expected.proofs.following.expected_kinds.Given as goal

abbrev pub invariant-loop-kind : goal.invariant-loop-kind
invariant-loop-kind l =
    (l.front.list.items ≡ take l.count l.tokens.list.items)
    × HasPicked (IsExpected l.tokens.list.items l.count l.at) (take l.kind-index ALL_KINDS) l.kinds.items
