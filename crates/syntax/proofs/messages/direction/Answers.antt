use Rattle.std.proofs.Common.{◌≡◌, false, refl, sym, ap, ◌∙◌}
use Rattle.tree.specs.Symbols.{is_placed}
use Rattle.tree.specs.Grammar.{direction_word}
use Rattle.program.specs.declared.contract.Direction.{Direction}
use Rattle.program.specs.declared.contract.Direction.TheVariants as direction
use Rattle.syntax.proofs.pieces.Pieces.{stops_never}
use Rattle.syntax.specs.Firsts.{direction_of}
use Rattle.syntax.proofs.pieces.Words.{words_fails, words_taken}
use Rattle.syntax.proofs.definitions.MessageRules.{directions}
use Rattle.syntax.proofs.messages.direction.Goals as goal

pub returns-in_default : goal.returns-in_default
returns-in_default c = words_fails directions _ c.peek.ensures.some (ap direction_of (sym c.peek.ensures.kind) ∙ sym c.direction_of.ensures ∙ c.in_default.is)

pub returns : goal.returns
returns c = (words_taken directions c.in-Some.direction _ _ (ap direction_of (sym c.peek.ensures.kind) ∙ sym c.direction_of.ensures ∙ c.in-Some.is) (plain c.in-Some.direction) c.skip.ensures.fixed, stops_never _)
  where
    plain : (d : Direction) → is_placed (direction_word d) ≡ false
    plain direction.In = refl
    plain direction.Out = refl
