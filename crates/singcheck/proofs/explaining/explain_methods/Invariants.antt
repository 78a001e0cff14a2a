use Rattle.std.proofs.Common.{map}
use Rattle.std.specs.List.{All}
use Rattle.source.specs.Findings.{finding_model}
use Rattle.rules.specs.Programs.{model_of}
use Rattle.tasks.specs.Tasks.{numbers_below}
use Rattle.analyse.specs.Workers.{IsWorkerOf}
use Rattle.explanations.specs.Explained.{explained_model}
use Rattle.singcheck.specs.Explains.{IsExplainedIn}
use Rattle.singcheck.specs.Verdicts.{AreOfMethods}
use Rattle.singcheck.proofs.explaining.explain_methods.Given as goal

abbrev pub invariant-loop-number : goal.invariant-loop-number
invariant-loop-number l = record {
  worker : IsWorkerOf l.rows l.worker;
  found : AreOfMethods (model_of l.program) (numbers_below l.number) (map (λ e. finding_model e.finding) l.found.items);
  each : All (λ e. IsExplainedIn l.named (model_of l.program) (explained_model e)) l.found.items;
}
