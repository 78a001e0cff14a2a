use Rattle.std.specs.Prelude.{All}
use Rattle.program.specs.declared.method.Variable.{Variable}
use Rattle.rules.specs.Endpoints.{declared_leaf}
use Rattle.rows.specs.Leaves.{IsNumbered}
use Rattle.rules.proofs.EndLemmas.{variables_numbered}
use Rattle.std.proofs.Common.{sym, subst, slice_get, map, ap, ◌∙◌}
use Rattle.rules.specs.Programs.{model_of}
use Rattle.rules.specs.Steps.{entry_leaf}
use Rattle.rules.proofs.ProgramLemmas.{entry_is}
use Rattle.rules.proofs.stepping.entry_pair.Goals as goal

pub returns : goal.returns
returns c =
    entry_is (slice_get (model_of c.args.program.now).methods c.args.method.0) c.method.result.now c.graph.result.now _ c.method.ensures.method c.graph.ensures
    (c.in_ok-row.ensures ∙ ap (map (λ v. entry_leaf v.role v.ty)) c.deref.ensures.value)

pub first_row-requires-clause-numbered : goal.first_row-requires-clause-numbered
first_row-requires-clause-numbered c =
    let p = model_of c.args.program.now in
    subst (All (λ (v : Variable). IsNumbered (declared_leaf v.ty))) (sym c.deref.ensures.value)
    (variables_numbered c.args.program.now.sounds.items p.contracts c.method.result.now.variables.items c.args.program.now.sound c.method.ensures.well_formed.types)
