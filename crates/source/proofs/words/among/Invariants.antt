use Rattle.std.proofs.Common.{◌≡◌, drop}
use Rattle.source.specs.Words.{kind_among}
use Rattle.source.proofs.words.among.Given as goal

-- the same kind is found among the remaining ones
abbrev pub invariant-loop-kind : goal.invariant-loop-kind
invariant-loop-kind l = kind_among (drop l.kind-index l.kinds) l.word ≡ kind_among l.kinds l.word
