use Rattle.std.proofs.Common.{sym, ◌∙◌}
use Rattle.machine.proofs.BindingLemmas.{read_may}
use Rattle.machine.proofs.exchanging.exchange.Goals as goal

pub put-requires : goal.put-requires
put-requires c =
    let variables = c.args.frame.now.variables in
    record {
      takes = λ a e. read_may variables.count variables.bindings.items variables.kept c.args.e.given.variable.0 c.in-Some-own_apart.given
          (sym c.has-2.ensures ∙ c.in-Some-own_apart.ensures.some);
    }
