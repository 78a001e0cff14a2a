use Rattle.std.proofs.Common.{◌≡◌, false, refl, sym, ap, ◌∙◌}
use Rattle.tree.specs.Symbols.{is_placed}
use Rattle.tree.specs.Grammar.{scalar_word}
use Rattle.program.specs.declared.types.Scalar.{Scalar}
use Rattle.program.specs.declared.types.Scalar.TheVariants as scalar
use Rattle.syntax.proofs.pieces.Pieces.{stops_never}
use Rattle.syntax.specs.Firsts.{scalar_of}
use Rattle.syntax.proofs.pieces.Words.{words_fails, words_taken}
use Rattle.syntax.proofs.definitions.TypeRules.{scalars}
use Rattle.syntax.proofs.types.scalar.Goals as goal

pub returns-in_default : goal.returns-in_default
returns-in_default c = words_fails scalars _ c.peek.ensures.some (ap scalar_of (sym c.peek.ensures.kind) ∙ sym c.scalar_of.ensures ∙ c.in_default.is)

pub returns : goal.returns
returns c = (words_taken scalars c.in-Some.scalar _ _ (ap scalar_of (sym c.peek.ensures.kind) ∙ sym c.scalar_of.ensures ∙ c.in-Some.is) (plain c.in-Some.scalar) c.skip.ensures.fixed, stops_never _)
  where
    plain : (s : Scalar) → is_placed (scalar_word s) ≡ false
    plain scalar.Int = refl
    plain scalar.Bool = refl
    plain scalar.Byte = refl
