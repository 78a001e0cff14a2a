-- Access words as parts of the grammar.
use Rattle.std.proofs.Common.{◌≡◌, Some, refl, ap}
use Rattle.source.specs.declared.kind.Kind.{Kind}
use Rattle.source.specs.declared.kind.Kind.TheVariants as kind
use Rattle.tree.specs.Symbols.{by_kind}
use Rattle.tree.specs.Spelling.{word, optional}
use Rattle.syntax.specs.Reading.{never, optional_at}
use Rattle.tree.specs.Grammar.{access_word}
use Rattle.syntax.specs.Firsts.{access_of, opens_access}
use Rattle.tree.specs.declared.item as tree
use Rattle.tree.specs.declared.item.Access.TheVariants as access
use Rattle.syntax.proofs.pieces.Pieces.{Piece}
use Rattle.syntax.proofs.pieces.Beginnings.{splits_self}
use Rattle.syntax.proofs.pieces.Options.{opt_piece}
use Rattle.syntax.proofs.pieces.Words.{Words, words_piece, words_starts, one_some, none_some}

-- [ "public" | "private" | "internal" ]

pub accesses : Words access_word access_of
accesses = record { some = access.Public; known = known; blank = refl; only = only; plain = plain }
  where
    known : (a : tree.Access.Access) → access_of (Some (access_word a)) ≡ Some a
    known access.Public = refl
    known access.Private = refl
    known access.Internal = refl

    only : (k : Kind) (a : tree.Access.Access) → access_of (Some k) ≡ Some a → k ≡ access_word a
    only kind.Public a e = ap access_word (one_some e)
    only kind.Private a e = ap access_word (one_some e)
    only kind.Internal a e = ap access_word (one_some e)
    only k a e = absurd (none_some e)

    plain : (a : tree.Access.Access) → access_word a ≡ kind.Name → ⊥
    plain access.Public e = cc
    plain access.Private e = cc
    plain access.Internal e = cc

pub access_piece : Piece (optional (λ a. word (access_word a))) (by_kind opens_access) (optional_at (by_kind opens_access) (λ _. never))
access_piece = opt_piece (words_piece accesses) (words_starts accesses) splits_self
