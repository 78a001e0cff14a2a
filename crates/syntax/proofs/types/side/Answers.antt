use Rattle.std.proofs.Common.{◌≡◌, false, refl, sym, ap, ◌∙◌}
use Rattle.tree.specs.Symbols.{is_placed}
use Rattle.tree.specs.Grammar.{side_word}
use Rattle.program.specs.declared.types.Side.{Side}
use Rattle.program.specs.declared.types.Side.TheVariants as side
use Rattle.syntax.proofs.pieces.Pieces.{stops_never}
use Rattle.syntax.specs.Firsts.{side_of}
use Rattle.syntax.proofs.pieces.Words.{words_fails, words_taken}
use Rattle.syntax.proofs.definitions.TypeRules.{sides}
use Rattle.syntax.proofs.types.side.Goals as goal

pub returns-in_default : goal.returns-in_default
returns-in_default c = words_fails sides _ c.peek.ensures.some (ap side_of (sym c.peek.ensures.kind) ∙ sym c.side_of.ensures ∙ c.in_default.is)

pub returns : goal.returns
returns c = (words_taken sides c.in-Some.side _ _ (ap side_of (sym c.peek.ensures.kind) ∙ sym c.side_of.ensures ∙ c.in-Some.is) (plain c.in-Some.side) c.skip.ensures.fixed, stops_never _)
  where
    plain : (s : Side) → is_placed (side_word s) ≡ false
    plain side.Imp = refl
    plain side.Exp = refl
