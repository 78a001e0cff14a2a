use Rattle.std.proofs.Common.{◌≡◌, ◌++◌, map, take}
use Rattle.std.specs.Fmt.{decimal}
use Rattle.std.specs.List.{join_with_byte}
use Rattle.replays.proofs.blocks.add_addresses.Given as goal

-- the addresses so far
abbrev pub invariant-loop-index : goal.invariant-loop-index
invariant-loop-index l = l.answer.items ≡ l.initial.answer.items ++ join_with_byte 44 (map decimal (take l.index l.addresses))
