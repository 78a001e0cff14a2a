use Rattle.std.proofs.Common.{◌≡◌, ◌<◌, ◌++◌, ◌∷◌, Some, length, map, slice_get, sym, ap, subst, ◌∙◌, arith}
use Rattle.std.specs.List.{All, AllZip}
use Rattle.std.specs.Prelude.{IsSomeAnd}
use Rattle.std.proofs.lemmas.Option.{slice_get_within}
use Rattle.std.proofs.lemmas.Result.{IfOk-weaker}
use Rattle.flow.specs.Graphs.{graph_model}
use Rattle.flow.specs.Lowering.{graph_of}
use Rattle.program.specs.Methods.{MethodModel, method_model}
use Rattle.program.specs.declared.number.VarId.{VarId}
use Rattle.rules.specs.Breaches.{breach_in}
use Rattle.rules.specs.Programs.{model_of}
use Rattle.rules.specs.Outcomes.{Fails}
use Rattle.rules.specs.Steps.{entry_of, outcome, step_at}
use Rattle.analyse.specs.Names.{NamesPair}
use Rattle.analyse.specs.Noted.{pairs_of}
use Rattle.analyse.specs.Traces.{IsTrace}
use Rattle.analyse.specs.Workers.{own_of, view_of}
use Rattle.analyse.proofs.ZipLemmas.{zip_long}
use Rattle.traces.specs.Explained.{trace_lines}
use Rattle.explanations.specs.Lines.{line_model}
use Rattle.traces.specs.Lines.{path_lines, start_lines}
use Rattle.traces.specs.Watched.{variables_of_reason}
use Rattle.traces.proofs.LineLemmas.{all_inside, first_seen, one_pair}
use Rattle.traces.proofs.NameLemmas.{method_at}
use Rattle.traces.proofs.explaining.ExplainingSite.trace_lines.Goals as goal

pub read_pair-requires-clause-there : goal.read_pair-requires-clause-there
read_pair-requires-clause-there c =
    let w = c.args.worker.now in
    let t = c.requires.trails in
    let first = t.2.first c.args.failure c.requires.known in
    let inside = slice_get_within t.0 c.args.failure.at first.at first.there in
    omega (arith, inside, zip_long (NamesPair (view_of w) (own_of w) w.alone) (pairs_of w.seen) t.0 t.1)

pub instruction_at-at-requires : goal.instruction_at-at-requires
instruction_at-at-requires c = record {
  graph = subst (λ o. IsSomeAnd o (λ (m : MethodModel). graph_model c.graph.result.now ≡ graph_of m)) (method_at c.methods.result.now (model_of c.args.self.now.program.now).methods c.args.self.now.method.0 c.index-methods-self.result c.methods.ensures.methods c.requires.there c.index-methods-self.is) c.graph.ensures;
}

pub path_lines-requires-clause-graph : goal.path_lines-requires-clause-graph
path_lines-requires-clause-graph c =
    subst (λ o. IsSomeAnd o (λ (m : MethodModel). graph_model c.graph.result.now ≡ graph_of m)) (method_at c.methods.result.now (model_of c.args.self.now.program.now).methods c.args.self.now.method.0 c.index-methods-self.result c.methods.ensures.methods c.requires.there c.index-methods-self.is) c.graph.ensures

pub path_lines-requires-clause-there : goal.path_lines-requires-clause-there
path_lines-requires-clause-there c =
    let w = c.read_pair.new.self in
    let t = c.requires.trails in
    let way = c.in_ok-places.ensures _ _ t.0 t.2 in
    let long = zip_long (NamesPair (view_of w) (own_of w) w.alone) (pairs_of w.seen) t.0 (c.read_pair.ensures.seen t.0 t.1) in
    subst (All (λ index. index < length (pairs_of w.seen))) (sym c.deref-2.ensures.value)
    (subst (λ n. All (λ index. index < n) c.in_ok-places.places.items) long (all_inside t.0 c.in_ok-places.places.items way.0.steps way.0.named))

pub returns-clause-trace : goal.returns-clause-trace
returns-clause-trace c =
    let p = model_of c.args.self.now.program.now in
    let n = c.args.self.now.method.0 in
    let m = method_model c.index-methods-self.result in
    let breach = c.args.failure.breach in
    let t = c.requires.trails in
    let way = c.in_ok-places.ensures p n t.0 t.2 in
    let by = way.0 in
    let trace : IsTrace (outcome p n) (entry_of p n) (breach_in p n breach) by.steps = by.trace in
    let failed = t.2.first c.args.failure c.requires.known in
    let fails : step_at p n trace.at ≡ Fails breach = ap (step_at p n) (one_pair by.trace.at failed.at (sym way.1 ∙ failed.there)) ∙ failed.fails in
    let seen = c.read_pair.ensures.seen t.0 t.1 in
    let here = one_pair by.trace.at _ (sym way.1 ∙ c.in_ok-point.ensures.pair t.0 t.1) in
    let about : map (λ (v : VarId). v.0) c.in_ok-about.about.items ≡ variables_of_reason breach.reason (slice_get (graph_of m).instructions by.trace.at.0)
    = c.in_ok-about.ensures ∙ ap (variables_of_reason breach.reason) (c.instruction_at-at.ensures ∙ ap (λ x. slice_get (graph_of m).instructions x.0) (sym here)) in
    let there = method_at c.methods.result.now p.methods n c.index-methods-self.result c.methods.ensures.methods c.requires.there c.index-methods-self.is in
    let first : slice_get t.0 0 ≡ Some (entry_of p n) = first_seen p n t.0 c.args.trails.now t.2 in
    IfOk-weaker c.path_lines.result _ _ (λ lines told.
    let is : map line_model lines.items ≡ trace_lines p m breach (entry_of p n) by.steps trace.at
    = told t.0 by.steps (entry_of p n) seen first (subst (λ ps. AllZip (λ index x. slice_get t.0 index ≡ Some x) ps by.steps) (sym c.deref-2.ensures.value) by.named)
    ∙ ap (λ vs. start_lines p m vs (entry_of p n).1 ++ path_lines p m vs (entry_of p n ∷ by.steps)) (ap (map (λ (v : VarId). v.0)) c.deref.ensures.value ∙ about) in
    record {
      steps = by.steps;
      trace = trace;
      breach = breach;
      fails = fails;
      told = subst (λ o. IsSomeAnd o (λ m. map line_model lines.items ≡ trace_lines p m breach (entry_of p n) by.steps trace.at)) (sym there) is;
    }) c.path_lines.ensures.lines
