use Rattle.std.proofs.Common.{subst, sym}
use Rattle.tree.specs.Trees.{program_tree}
use Rattle.singcheck.specs.Fronts.{AreNamed}
use Rattle.singcheck.proofs.entering.enter.Goals as goal

pub judged_program-requires : goal.judged_program-requires
judged_program-requires c =
    let named = c.in_ok-methods.ensures.methods in
    record { whole = named.whole; few = named.room }

pub enter_method-requires : goal.enter_method-requires
enter_method-requires c =
    let text = c.args.text.now in
    let items = program_tree c.in_ok-methods.tree in
    let one = c.in-Ok.ensures.program in
    let here = subst (AreNamed text items) (sym one.same) c.in_ok-methods.ensures.methods in
    record { program = here.names; sound = one.sound; few = here.few }
