use Rattle.std.proofs.Common.{◌≡◌, suc, ◌+◌, ◌++◌, ◌∷◌, Some, drop, map, slice_get, sym, ap, ◌∙◌, append-nil, arith}
use Rattle.flow.specs.Lowering.{graph_of}
use Rattle.program.specs.Methods.{method_model}
use Rattle.program.specs.declared.number.VarId.{VarId}
use Rattle.rules.specs.Outcomes.{Pair}
use Rattle.rules.specs.Programs.{model_of}
use Rattle.rows.specs.Rows.{row_model}
use Rattle.explanations.specs.Lines.{line_model}
use Rattle.traces.specs.Lines.{path_lines, step_lines}
use Rattle.traces.proofs.LineLemmas.{next_step, no_more_steps, one_pair, path_step}
use Rattle.traces.proofs.teller.Teller.path_lines.Goals as goal

pub loop-index-preserved : goal.loop-index-preserved
loop-index-preserved c =
    let p = model_of c.args.self.now.program.now in
    let m = method_model c.args.self.now.method.now in
    let about = map (λ (v : VarId). v.0) c.args.watched.now in
    let i = c.loop-index.invariant in
    let n = c.loop-index.index-index in
    record {
      worker = c.read_pair-in-loop-index.ensures.worker;
      differ = c.read_pair-in-loop-index.ensures.differ;
      count = c.read_pair-in-loop-index.ensures.count ∙ i.count;
      seen = λ pairs has. c.read_pair-in-loop-index.ensures.seen pairs (i.seen pairs has);
      lines = λ pairs steps first has at zip.
          let s = next_step pairs c.args.indices.now steps n 0 zip c.loop-index-test.true in
          let here : Pair = (c.loop-index.point, row_model c.loop-index.before) in
          let copied = c.in_ok-copy_from.ensures in
          let later : suc n ≡ n + 1 = omega arith in
          ap (λ k. map line_model c.add_step.new.lines.items ++ path_lines p m about ((c.in_ok-next.next, row_model c.copy_from.new.self) ∷ drop k steps)) (sym later)
          ∙ path_step p m about here s.next (c.in_ok-next.next, row_model c.copy_from.new.self) (drop (suc n) steps) (drop n steps) (map line_model c.loop-index.lines.items) (map line_model c.add_step.new.lines.items) _ s.are
          (one_pair s.next _ (sym s.there ∙ c.in_ok-next.ensures.pair pairs (i.seen pairs has) ∙ ap (λ row. Some (c.in_ok-next.next, row)) (sym copied)))
          (c.in_ok-add_step.ensures ∙ ap (λ row. map line_model c.loop-index.lines.items ++ step_lines p m (slice_get (graph_of m).instructions c.loop-index.point) about here (c.in_ok-next.next, row)) (sym copied))
          (i.lines pairs steps first has at zip);
    }

pub returns-clause-lines : goal.returns-clause-lines
returns-clause-lines c = λ pairs steps first has at zip.
    let p = model_of c.args.self.now.program.now in
    let m = method_model c.args.self.now.method.now in
    let about = map (λ (v : VarId). v.0) c.args.watched.now in
    let none = no_more_steps pairs c.args.indices.now steps c.loop-index.index-index zip (omega (arith, c.loop-index-test.false)) in
    sym (append-nil (map line_model c.loop-index.lines.items))
    ∙ ap (λ rest. map line_model c.loop-index.lines.items ++ path_lines p m about ((c.loop-index.point, row_model c.loop-index.before) ∷ rest)) (sym none)
    ∙ c.loop-index.invariant.lines pairs steps first has at zip
