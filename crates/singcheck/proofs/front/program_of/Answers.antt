use Rattle.std.proofs.Common.{subst, sym}
use Rattle.std.proofs.lemmas.Result.{IfOk-weaker}
use Rattle.tree.specs.Trees.{program_tree}
use Rattle.rules.specs.Programs.{model_of}
use Rattle.singcheck.specs.Fronts.{HasCleanNames}
use Rattle.singcheck.proofs.CheckLemmas.{has_program}
use Rattle.singcheck.proofs.front.program_of.Goals as goal

pub judged_program-requires : goal.judged_program-requires
judged_program-requires c =
    let named = c.in_ok-methods.ensures.methods in
    record { whole = named.whole; few = named.room }

pub returns-clause-program : goal.returns-clause-program
returns-clause-program c =
    let text = c.args.text.now in
    let items = program_tree c.in_ok-methods.tree in
    let named = c.in_ok-methods.ensures.methods in
    IfOk-weaker c.judged_program.result _ _ (λ program one. record {
      has = has_program text items (model_of program) (subst (HasCleanNames text items) (sym one.same) named.names) one.sound;
      safe = one.safe;
    }) c.judged_program.ensures.program

pub returns-clause-refused : goal.returns-clause-refused
returns-clause-refused c =
    c.judged_program.ensures.refused c.args.text.now (program_tree c.in_ok-methods.tree) c.in_ok-methods.ensures.methods
