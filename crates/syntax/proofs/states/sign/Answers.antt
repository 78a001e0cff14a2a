use Rattle.std.proofs.Common.{◌≡◌, true, refl, sym, ap, ◌∙◌}
use Rattle.tree.specs.Symbols.{is_placed}
use Rattle.tree.specs.Grammar.{sign_word}
use Rattle.program.specs.declared.contract.Sign.{Sign}
use Rattle.program.specs.declared.contract.Sign.TheVariants as sign
use Rattle.syntax.proofs.pieces.Pieces.{stops_never}
use Rattle.syntax.specs.Firsts.{sign_of}
use Rattle.syntax.proofs.pieces.Words.{marks_fails, marks_taken}
use Rattle.syntax.proofs.definitions.StateRules.{signs}
use Rattle.syntax.proofs.states.sign.Goals as goal

pub returns-in_default : goal.returns-in_default
returns-in_default c = marks_fails signs _ c.peek.ensures.some (ap sign_of (sym c.peek.ensures.kind) ∙ sym c.sign_of.ensures ∙ c.in_default.is)

pub returns : goal.returns
returns c = (marks_taken signs c.in-Some.sign c.skip-mark.result _ _ (ap sign_of (sym c.peek.ensures.kind) ∙ sym c.sign_of.ensures ∙ c.in-Some.is) (high c.in-Some.sign) c.skip-mark.ensures.placed, stops_never _)
  where
    high : (s : Sign) → is_placed (sign_word s) ≡ true
    high sign.Send = refl
    high sign.Receive = refl
