use Rattle.declarations.specs.declared.mistake.Limit.TheVariants as limit
use Rattle.std.proofs.Common.{◌∙◌, ap, arith, length, map, subst, sym}
use Rattle.std.specs.Prelude.{OnOk}
use Rattle.std.specs.List.{flat_map}
use Rattle.std.proofs.lemmas.Result.{on_ok_weaker}
use Rattle.declarations.specs.Declarations.{counted_states}
use Rattle.declarations.specs.ItemMistakes.{all_counted_states}
use Rattle.tree.specs.Trees.{contracts_of}
use Rattle.declarations.specs.Mistakes.{Adds}
use Rattle.declarations.specs.Listed.{past_limit}
use Rattle.declarations.specs.Outlines.{outlined_states}
use Rattle.declarations.specs.Scopes.{declared_among}
use Rattle.declarations.specs.declared.members.Declared.{Declared}
use Rattle.declarations.specs.declared.members.Members.{Members}
use Rattle.declarations.proofs.AddLemmas.{adds_none, adds_then}
use Rattle.declarations.proofs.ContractLemmas.{all_names, all_states, many_states, none_past}
use Rattle.declarations.proofs.contracts.judge_counted.Goals as goal

pub returns : goal.returns
returns c = λ p h.
    let members = c.args.scope.now.members.items in
    let names = c.deref-2.ensures.value ∙ c.in_ok-names.ensures ∙ ap (flat_map (λ (m : Members). map (λ (d : Declared). d.outline.name) (declared_among m))) c.deref.ensures.value
    ∙ all_names p.text p.items members h.members in
    let states = c.deref-5.ensures.value ∙ c.in_ok-counted.ensures
    ∙ ap (flat_map (λ (m : Members). flat_map (λ (d : Declared). counted_states (outlined_states d.outline)) (declared_among m))) c.deref-4.ensures.value
    ∙ all_states p.text p.items members h.members in
    let first = subst (λ n. Adds c.args.found.now.items c.judge_limit.new.found.items (past_limit limit.Contracts n)) names c.in_ok-judge_limit.ensures in
    let second = subst (λ n. OnOk c.judge_limit-2.result (Adds c.judge_limit.new.found.items c.judge_limit-2.new.found.items (past_limit limit.States n))) states c.judge_limit-2.ensures in
    on_ok_weaker c.judge_limit-2.result (λ last. adds_then first last) second

pub returns-then-are_few : goal.returns-then-are_few
returns-then-are_few c = λ p h.
    let members = c.args.scope.now.members.items in
    let names = c.deref-2.ensures.value ∙ c.in_ok-names.ensures ∙ ap (flat_map (λ (m : Members). map (λ (d : Declared). d.outline.name) (declared_among m))) c.deref.ensures.value
    ∙ all_names p.text p.items members h.members in
    let first = subst (λ n. Adds c.args.found.now.items c.judge_limit.new.found.items (past_limit limit.Contracts n)) names c.in_ok-judge_limit.ensures in
    let states = all_counted_states (contracts_of p.items) in
    let few = c.are_few.ensures.0 c.if-are_few.true in
    let shown = ap (λ l. length (flat_map (λ (m : Members). flat_map (λ (d : Declared). d.counted.all.items) (declared_among m)) l)) c.deref-3.ensures.value in
    let many = many_states p.text p.items members h.members in
    let none = none_past limit.States states (omega (arith, few, shown, many)) in
    adds_then first (subst (Adds c.judge_limit.new.found.items c.judge_limit.new.found.items) (sym none) (adds_none c.judge_limit.new.found.items))
