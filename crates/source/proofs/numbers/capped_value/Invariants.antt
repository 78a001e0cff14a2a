use Rattle.std.proofs.Common.{◌≡◌, ◌-◌, ◌^◌, min, take}
use Rattle.source.specs.Numbers.{number_value}
use Rattle.source.proofs.numbers.capped_value.Given as goal

-- the value of the digits so far
abbrev pub invariant-loop-digit : goal.invariant-loop-digit
invariant-loop-digit l = l.value ≡ min (number_value (take l.digit-index l.digits)) (2 ^ 32 - 1)
