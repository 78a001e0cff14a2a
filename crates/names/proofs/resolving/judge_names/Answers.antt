use Rattle.std.proofs.Common.{◌∙◌, ap, map, sym, subst, arith}
use Rattle.std.proofs.lemmas.Grind.{common_steps}
use Rattle.tree.specs.Trees.{contracts_of, item_tree}
use Rattle.declarations.specs.Program.{program_of}
use Rattle.declarations.specs.Resolution.{message_count, resolved_contracts}
use Rattle.declarations.specs.Scopes.{IsScope}
use Rattle.names.proofs.CleanLemmas.{cleared_by}
use Rattle.names.proofs.FewLemmas.{few_messages}
use Rattle.names.proofs.resolving.judge_names.Goals as goal

pub resolve_contracts-requires-clause-scope : goal.resolve_contracts-requires-clause-scope
resolve_contracts-requires-clause-scope c =
    let text = c.args.text.now in
    let clear = cleared_by text c.args.tree.now.items.items c.deref.result.now c.in_ok-scope.scope c.in_ok-mistakes.mistakes.items c.in_ok-mistakes.mistakes.len
    c.deref.ensures.value (omega (arith, c.in_ok-mistakes.mistakes.ok.0)) (sym c.is_empty.ensures ∙ c.if-is_empty.true) c.in_ok-scope.ensures c.in_ok-mistakes.ensures in
    clear.own

pub resolve_contracts-requires-clause-clean : goal.resolve_contracts-requires-clause-clean
resolve_contracts-requires-clause-clean c =
    let text = c.args.text.now in
    let clear = cleared_by text c.args.tree.now.items.items c.deref.result.now c.in_ok-scope.scope c.in_ok-mistakes.mistakes.items c.in_ok-mistakes.mistakes.len
    c.deref.ensures.value (omega (arith, c.in_ok-mistakes.mistakes.ok.0)) (sym c.is_empty.ensures ∙ c.if-is_empty.true) c.in_ok-scope.ensures c.in_ok-mistakes.ensures in
    clear.contracts

pub resolve_contracts-requires-clause-few : goal.resolve_contracts-requires-clause-few
resolve_contracts-requires-clause-few c =
    let text = c.args.text.now in
    let clear = cleared_by text c.args.tree.now.items.items c.deref.result.now c.in_ok-scope.scope c.in_ok-mistakes.mistakes.items c.in_ok-mistakes.mistakes.len
    c.deref.ensures.value (omega (arith, c.in_ok-mistakes.mistakes.ok.0)) (sym c.is_empty.ensures ∙ c.if-is_empty.true) c.in_ok-scope.ensures c.in_ok-mistakes.ensures in
    let few = few_messages c.args.tree.now in
    let shown = ap (λ p. message_count (contracts_of p.items)) clear.same in
    omega (arith, few, shown, c.requires)

pub returns-then-is_empty-clause-resolved : goal.returns-then-is_empty-clause-resolved
returns-then-is_empty-clause-resolved c =
    let text = c.args.text.now in
    let clear = cleared_by text c.args.tree.now.items.items c.deref.result.now c.in_ok-scope.scope c.in_ok-mistakes.mistakes.items c.in_ok-mistakes.mistakes.len
    c.deref.ensures.value (omega (arith, c.in_ok-mistakes.mistakes.ok.0)) (sym c.is_empty.ensures ∙ c.if-is_empty.true) c.in_ok-scope.ensures c.in_ok-mistakes.ensures in
    record {
      clean = clear.clean;
      contracts = c.in_ok-resolve_contracts.ensures.resolved ∙ ap (λ p. resolved_contracts p.text (contracts_of p.items)) clear.same;
      apart = c.in_ok-resolve_contracts.ensures.apart;
      whole = c.in_ok-resolve_contracts.ensures.whole;
    }

pub returns-clause-mistakes : goal.returns-clause-mistakes
returns-clause-mistakes c =
    let text = c.args.text.now in
    let scoped = subst (λ l. IsScope (record { text = text; items = map item_tree l }) c.in_ok-scope.scope) c.deref.ensures.value c.in_ok-scope.ensures in
    record {
      some = λ e. grind (arith, common_steps);
      all = c.in_ok-mistakes.ensures (program_of text c.args.tree.now) scoped;
    }
