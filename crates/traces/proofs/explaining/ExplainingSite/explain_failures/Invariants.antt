use Rattle.std.proofs.Common.{◌≡◌, List, map, take}
use Rattle.std.specs.List.{All}
use Rattle.source.specs.Findings.{finding_model}
use Rattle.rules.specs.Breaches.{breach_in}
use Rattle.rules.specs.Outcomes as outcomes
use Rattle.rules.specs.Programs.{model_of}
use Rattle.analyse.specs.Reach.{Differ}
use Rattle.analyse.specs.Workers.{HasSeen, IsWorkerOf, own_of}
use Rattle.explanations.specs.Explained.{explained_model}
use Rattle.traces.specs.Explained.{IsExplainedIf}
use Rattle.traces.proofs.explaining.ExplainingSite.explain_failures.Given as goal

abbrev pub invariant-loop-failure : goal.invariant-loop-failure
invariant-loop-failure l = record {
  worker : IsWorkerOf l.self.rows.now l.worker;
  differ : Differ (own_of l.worker);
  seen : (pairs : List outcomes.Pair) → HasSeen l.fn.worker pairs → HasSeen l.worker pairs;
  found : map (λ e. finding_model e.finding) l.found.items ≡ map (λ k. breach_in (model_of l.self.program.now) l.self.method.0 k.breach) (take l.failure-index l.failure-items);
  explained : All (λ e. IsExplainedIf l.self.named (model_of l.self.program.now) l.self.method.0 (explained_model e)) l.found.items;
}
