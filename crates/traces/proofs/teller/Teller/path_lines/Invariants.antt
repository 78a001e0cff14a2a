use Rattle.std.proofs.Common.{◌≡◌, ◌++◌, ◌∷◌, List, Some, drop, length, map, slice_get}
use Rattle.std.specs.List.{AllZip}
use Rattle.program.specs.Methods.{method_model}
use Rattle.rules.specs.Outcomes as outcomes
use Rattle.rules.specs.Programs.{model_of}
use Rattle.rows.specs.Rows.{row_model}
use Rattle.analyse.specs.Noted.{pairs_of}
use Rattle.analyse.specs.Reach.{Differ}
use Rattle.analyse.specs.Workers.{HasSeen, IsWorkerOf, own_of}
use Rattle.explanations.specs.Lines.{line_model}
use Rattle.traces.specs.Lines.{path_lines, start_lines}
use Rattle.traces.proofs.teller.Teller.path_lines.Given as goal

abbrev pub invariant-loop-index : goal.invariant-loop-index
invariant-loop-index l = record {
  worker : IsWorkerOf l.rows l.worker;
  differ : Differ (own_of l.worker);
  count : length (pairs_of l.worker.seen) ≡ length (pairs_of l.fn.worker.seen);
  seen : (pairs : List outcomes.Pair) → HasSeen l.fn.worker pairs → HasSeen l.worker pairs;
  lines : (pairs steps : List outcomes.Pair) (first : outcomes.Pair) → HasSeen l.fn.worker pairs → slice_get pairs 0 ≡ Some first
      → AllZip (λ index x. slice_get pairs index ≡ Some x) l.indices steps
      → map line_model l.lines.items ++ path_lines (model_of l.self.program.now) (method_model l.self.method.now) (map (λ v. v.0) l.watched) ((l.point, row_model l.before) ∷ drop l.index-index steps)
      ≡ start_lines (model_of l.self.program.now) (method_model l.self.method.now) (map (λ v. v.0) l.watched) first.1 ++ path_lines (model_of l.self.program.now) (method_model l.self.method.now) (map (λ v. v.0) l.watched) (first ∷ steps);
}
