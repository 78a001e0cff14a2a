use Rattle.std.proofs.Common.{◌∙◌, ◌++◌, List, ℕ, ap, subst}
use Rattle.std.proofs.lemmas.Result.{IfOk-weaker}
use Rattle.rules.specs.Programs.{model_of}
use Rattle.explore.specs.Answers.{IsAnswer}
use Rattle.singcheck.specs.Lines.{none_line}
use Rattle.singcheck.specs.PrintedRuns.{Whole}
use Rattle.singcheck.proofs.explorations.explore_begun.Goals as goal

pub returns-in_ok-add_all_worlds-in-Whole : goal.returns-in_ok-add_all_worlds-in-Whole
returns-in_ok-add_all_worlds-in-Whole c = λ text entry begun.
    let p = model_of c.args.begun.now.program in
    let n = c.args.begun.now.method.0 in
    Whole c.in-Whole.count (record {
      program = p;
      n = n;
      entered = begun.entered;
      none = λ bound are. c.deadlocks_agree.ensures.none p bound n
          (subst (IsAnswer p bound n) c.in-Whole.is (c.in_ok-events.ensures bound are)).0;
      reaches = λ bound are. (subst (IsAnswer p bound n) c.in-Whole.is (c.in_ok-events.ensures bound are)).1;
    }) (ap (λ b. b.items) c.empty.ensures.bytes ∙ c.in_ok-add_all_worlds-in-Whole.ensures ∙ ap (λ (old : List ℕ). old ++ none_line c.in-Whole.count) c.new-bytes.ensures.items) c.empty.ensures.status

pub returns-in-Unknown : goal.returns-in-Unknown
returns-in-Unknown c = IfOk-weaker c.print_unknown.result _ _ (λ ran told text entry begun. told text entry) c.print_unknown.ensures
