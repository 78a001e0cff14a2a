-- The word of a kind is read as that kind.
use Rattle.std.proofs.Common.{◌≡◌, Some, refl}
use Rattle.std.specs.Prelude.{◌≢◌}
use Rattle.source.specs.Pieces.{kind_of}
use Rattle.source.specs.Words.{word_kind}
use Rattle.source.specs.declared.kind.Kind.{Kind}
use Rattle.source.specs.declared.kind.Kind.TheVariants.{Name, Number}
use Rattle.expected.specs.KindWords.{word_of}

pub read_back : (kind : Kind) → kind ≢ Name → kind ≢ Number → kind_of (word_of kind) ≡ Some kind
unfolding word_kind
read_back Name n m = absurd (n refl)
read_back Number n m = absurd (m refl)
read_back _ n m = refl
