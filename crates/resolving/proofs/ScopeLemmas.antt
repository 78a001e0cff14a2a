-- Frames with other variables in scope.
use Rattle.std.proofs.Common.{ℕ, List, Option}
use Rattle.resolving.specs.Locals as model
use Rattle.resolving.specs.Locals.{LocalFrame}

-- f with these variables in scope, and this one as the last of the exchange heap
abbrev pub scoped : List model.Local → Option ℕ → LocalFrame → LocalFrame
scoped locals last f = record { locals = locals; last = last; variables = f.variables }
