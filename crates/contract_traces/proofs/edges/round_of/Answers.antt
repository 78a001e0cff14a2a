use Rattle.std.proofs.Common.{◌≡◌, ◌∷◌, [], sym, subst}
use Rattle.std.specs.List.{All}
use Rattle.std.proofs.lemmas.List.Elements.{All-append, All-cons, All-nil}
use Rattle.contracts.specs.Walks.{IsWalk}
use Rattle.program.specs.declared.contract.Edge.{Edge}
use Rattle.contract_traces.proofs.ShownLemmas.{walk_more}
use Rattle.contract_traces.proofs.edges.round_of.Goals as goal

pub loop-index-preserved : goal.loop-index-preserved
loop-index-preserved c =
    let edges = c.args.edges.now in
    let old = c.loop-index.walk.items in
    let e = c.in-Some.edge in
    let next = c.in-Some.ensures in
    let has = λ (x : Edge). x.sign ≡ c.args.sign in
    record {
      walk = subst (λ l. IsWalk edges c.args.state l e.to) (sym c.in_ok-push.ensures.items) (walk_more edges c.args.state c.loop-index.at old e c.loop-index.invariant.walk next.0 next.1);
      one_sign = subst (All has) (sym c.in_ok-push.ensures.items) (All-append has old (e ∷ []) c.loop-index.invariant.one_sign (All-cons has e [] next.2 (All-nil has)));
    }
