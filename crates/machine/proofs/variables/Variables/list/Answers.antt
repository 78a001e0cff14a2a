use Rattle.std.proofs.Common.{◌∙◌, ap, subst, sym}
use Rattle.std.specs.List.{insert}
use Rattle.std.specs.Prelude.{is_ok}
use Rattle.machine.specs.Bindings.{AreSorted, MayTake, has_binding, variables_in}
use Rattle.machine.proofs.BindingLemmas.{either_sorted, list_sorted, list_variables}
use Rattle.machine.proofs.TakeLemmas.{list_may, listed_may}
use Rattle.machine.proofs.variables.Variables.list.Goals as goal

pub returns-in_default-clause-takes : goal.returns-in_default-clause-takes
returns-in_default-clause-takes c = has_binding c.in_default.field-0 c.in_default.ensures.found

pub invariant_of-self : goal.invariant_of-self
invariant_of-self c =
    let count = c.args.self.now.count in
    let l = c.args.self.now.bindings.items in
    record {
      kept = subst (AreSorted count) (sym c.insert.ensures.items)
          (either_sorted count (is_ok c.insert.result) (insert l c.in-Err.at c.new.result) l
          (list_sorted count l c.args.self.now.kept c.args.v.0 c.in-Err.at c.new.result c.in-Err.ensures.absent c.if-v-self.false
          (c.new.ensures.variable ∙ c.in-Ok.ensures.1))
          c.args.self.now.kept);
    }

pub returns-in_err-insert-clause-still : goal.returns-in_err-insert-clause-still
returns-in_err-insert-clause-still c = λ u. subst (λ l. MayTake c.args.self.now.count l u) (sym c.in_err-insert.ensures.items)

pub returns-clause-same : goal.returns-clause-same
returns-clause-same c =
    ap (variables_in c.args.self.now.count) c.in_ok-insert.ensures.items
    ∙ list_variables c.args.self.now.count c.args.self.now.bindings.items c.args.v.0 c.in-Err.at c.new.result c.in-Err.ensures.absent
    (c.new.ensures.variable ∙ c.in-Ok.ensures.1) c.new.ensures.has

pub returns-clause-takes : goal.returns-clause-takes
returns-clause-takes c =
    subst (λ l. MayTake c.args.self.now.count l c.args.v.0) (sym c.in_ok-insert.ensures.items)
    (listed_may c.args.self.now.count c.args.self.now.bindings.items c.args.v.0 c.in-Err.at c.new.result c.in-Err.ensures.absent.within
    (c.new.ensures.variable ∙ c.in-Ok.ensures.1))

pub returns-clause-still : goal.returns-clause-still
returns-clause-still c = λ u may.
    subst (λ l. MayTake c.args.self.now.count l u) (sym c.in_ok-insert.ensures.items)
    (list_may c.args.self.now.count c.args.self.now.bindings.items c.in-Err.at c.new.result c.in-Err.ensures.absent.within u may)
