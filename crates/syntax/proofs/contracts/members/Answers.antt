use Rattle.std.proofs.Common.{map, sym, ap, ◌∙◌, refl, arith}
use Rattle.std.proofs.lemmas.Grind.{common_steps}
use Rattle.std.specs.List.{flat_map}
use Rattle.tree.specs.Symbols.{by_kind}
use Rattle.tree.specs.Trees.{member_tree}
use Rattle.tree.specs.Grammar.{member}
use Rattle.syntax.specs.Firsts.{opens_member}
use Rattle.syntax.specs.Reading.{many_at}
use Rattle.syntax.specs.States.{member_at, members_on}
use Rattle.syntax.proofs.pieces.Exits.{exits}
use Rattle.syntax.proofs.pieces.Repeats.{many_fails}
use Rattle.syntax.proofs.pieces.KindLemmas.{test_leads}
use Rattle.syntax.proofs.definitions.ContractRules.{member_piece, member_starts, member_splits, member_leaves, members_end_at}
use Rattle.syntax.proofs.contracts.members.Goals as goal

pub returns-in_err-member : goal.returns-in_err-member
returns-in_err-member c = exits (λ v. map member_tree v.items) (flat_map member) members_on (many_at (by_kind opens_member) member_at) _ _ _ _ _ c.from_residual.ensures.1 c.in_err-member.ensures
    (λ h. many_fails member_piece member_starts member_splits member_leaves (map member_tree c.each.all.items) c.each.invariant.read
    (test_leads opens_member _ refl (ap opens_member (sym c.peek.ensures.kind) ∙ sym c.is_member.ensures ∙ c.each-test.true)) h)

pub each-preserved : goal.each-preserved
each-preserved c = record {
  read = grind (arith, common_steps);
  ended = members_end_at c.in_ok-member.field-0 c.each.all.items c.push.new.all.items _ c.in_ok-push.ensures c.in_ok-member.ensures.1;
}
