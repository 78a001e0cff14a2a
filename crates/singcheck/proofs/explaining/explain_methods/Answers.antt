use Rattle.std.proofs.Common.{◌≡◌, ◌+◌, ◌<◌, suc, [], length, map, sym, ap, subst, ◌∙◌, arith}
use Rattle.std.specs.List.{All}
use Rattle.std.proofs.lemmas.List.{length-map, map-append}
use Rattle.std.proofs.lemmas.List.Elements.{All-append, All-nil, All-weaker}
use Rattle.source.specs.Findings.{finding_model}
use Rattle.program.specs.Methods.{method_model}
use Rattle.pool.specs.Counts.{times}
use Rattle.rules.specs.Programs.{model_of}
use Rattle.tasks.specs.Tasks.{numbers_below}
use Rattle.explanations.specs.Explained.{explained_model}
use Rattle.traces.specs.Explained.{IsExplainedIf}
use Rattle.explanations.specs.declared.line.Explained.{Explained}
use Rattle.singcheck.specs.Explains.{IsExplainedIn}
use Rattle.singcheck.specs.Verdicts.{AreOfMethods}
use Rattle.singcheck.proofs.VerdictLemmas.{of_all_methods, of_methods_then, of_no_methods, verdict_exactly}
use Rattle.singcheck.proofs.explaining.explain_methods.Goals as goal

pub loop-number-init : goal.loop-number-init
loop-number-init c =
    let p = model_of c.args.program.now in
    let none = c.new-found.ensures.items in
    record {
      worker = c.new-worker.ensures.worker c.in_ok-rows.rows c.in_ok-rows.ensures;
      found = subst (λ es. AreOfMethods p [] (map (λ (e : Explained). finding_model e.finding) es)) (sym none) (of_no_methods p);
      each = subst (All (λ (e : Explained). IsExplainedIn c.args.named p (explained_model e))) (sym none) (All-nil (λ (e : Explained). IsExplainedIn c.args.named p (explained_model e)));
    }

pub loop-number-preserved : goal.loop-number-preserved
loop-number-preserved c =
    let p = model_of c.args.program.now in
    let i = c.loop-number.invariant in
    let n = c.loop-number.number in
    let parts = λ (e : Explained). finding_model e.finding in
    let holds = λ (e : Explained). IsExplainedIn c.args.named p (explained_model e) in
    let old = c.loop-number.found.items in
    let more = c.in_ok-more.more.items in
    let all = c.in_ok-append.ensures.items in
    let later : suc n ≡ n + 1 = omega arith in
    let below : n < length p.methods = let many = ap length c.methods.ensures.methods in let t = c.loop-number-test.true in omega (arith, t, many, length-map c.methods.result.now method_model) in
    record {
      worker = c.explain.ensures.worker;
      found = subst (λ k. AreOfMethods p (numbers_below k) (map parts c.append.new.self.items)) later
          (of_methods_then p (numbers_below n) n (map parts old) (map parts more) (map parts c.append.new.self.items) i.found (verdict_exactly p n (map parts more) c.in_ok-more.ensures.verdict)
          (ap (map parts) all ∙ map-append parts old more));
      each = subst (All holds) (sym all) (All-append holds old more i.each (All-weaker (λ (e : Explained). IsExplainedIf c.args.named p n (explained_model e)) holds (λ e h. (n, below, h)) more c.in_ok-more.ensures.explained));
    }

pub returns-clause-found : goal.returns-clause-found
returns-clause-found c =
    let p = model_of c.args.program.now in
    let n = c.loop-number.number in
    let same : n ≡ length p.methods
    = let past = c.loop-number-test.false in let within = c.loop-number.auto.number-end in let many = ap length c.methods.ensures.methods in omega (arith, past, within, many, length-map c.methods.result.now method_model) in
    of_all_methods p (numbers_below n) (map (λ (e : Explained). finding_model e.finding) c.loop-number.found.items) (λ k. ap (λ m. times k (numbers_below m)) same) c.loop-number.invariant.found
