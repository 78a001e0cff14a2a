use Rattle.std.proofs.Common.{map, sym, ap, ◌∙◌, refl}
use Rattle.std.specs.List.{flat_map}
use Rattle.tree.specs.Symbols.{by_kind}
use Rattle.tree.specs.Trees.{message_tree}
use Rattle.tree.specs.Grammar.{message}
use Rattle.syntax.specs.Firsts.{opens_message}
use Rattle.syntax.proofs.pieces.Exits.{exits}
use Rattle.syntax.proofs.pieces.Beginnings.{splits_self}
use Rattle.syntax.proofs.pieces.Repeats.{many_fails, ended_leaves}
use Rattle.syntax.proofs.pieces.KindLemmas.{test_leads}
use Rattle.syntax.proofs.definitions.MessageRules.{message_piece, message_starts}
use Rattle.syntax.proofs.contracts.messages.Goals as goal

pub returns-in_err-message : goal.returns-in_err-message
returns-in_err-message c = exits (λ v. map message_tree v.items) (flat_map message) (by_kind opens_message) (λ _. by_kind opens_message) _ _ _ _ _ c.from_residual.ensures.1 c.in_err-message.ensures
    (λ h. many_fails message_piece message_starts splits_self ended_leaves (map message_tree c.each.all.items) c.each.invariant
    (test_leads opens_message _ refl (ap opens_message (sym c.peek.ensures.kind) ∙ sym c.is_message.ensures ∙ c.each-test.true)) h)
