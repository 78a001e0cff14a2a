use Rattle.std.proofs.Common.{◌≡◌, ◌++◌, sym, ap, ◌∙◌, refl}
use Rattle.tree.specs.Symbols.{by_kind}
use Rattle.tree.specs.Trees.{PathTree, path_tree}
use Rattle.tree.specs.Grammar.{path}
use Rattle.syntax.specs.Firsts.{opens_sign}
use Rattle.syntax.proofs.pieces.Exits.{exits}
use Rattle.syntax.proofs.pieces.KindLemmas.{test_leads}
use Rattle.syntax.proofs.definitions.StateRules.{path_name_fails, path_hop_fails, path_more_fails}
use Rattle.syntax.proofs.states.path.Goals as goal

pub returns-in_err-message : goal.returns-in_err-message
returns-in_err-message c = exits path_tree path (by_kind opens_sign) (λ _. by_kind opens_sign) _ _ _ _ _ c.from_residual.ensures.1 c.in_err-message.ensures
    (λ h. path_name_fails h)

pub returns-in_err-hop : goal.returns-in_err-hop
returns-in_err-hop c = exits path_tree path (by_kind opens_sign) (λ _. by_kind opens_sign) _ _ _ _ _ c.from_residual-in_err-hop.ensures.1 c.in_err-hop.ensures
    (λ h. path_hop_fails c.in_ok-message.message c.in_ok-message.ensures h)

pub returns-in_err-next : goal.returns-in_err-next
returns-in_err-next c =
    let so_far : PathTree = record { first = record { message = c.in_ok-message.message; sign = c.in_ok-hop.hop.sign; mark = c.in_ok-hop.hop.mark }; others = c.each.others.items; target = c.each.target } in
    let read : c.args.cursor.now ≡ path so_far ++ c.each.cursor = c.each.invariant in
    exits path_tree path (by_kind opens_sign) (λ _. by_kind opens_sign) _ _ _ _ _ c.from_residual-in_err-next.ensures.1 c.in_err-next.ensures
    (λ h. path_more_fails so_far read (test_leads opens_sign _ refl (ap opens_sign (sym c.peek.ensures.kind) ∙ sym c.is_sign.ensures ∙ c.each-test.true)) h)
