use Rattle.std.proofs.Common.{◌∙◌, slice_get, refl, sym, ap}
use Rattle.std.proofs.lemmas.Option.{slice_get_past, slice_get_read}
use Rattle.rules.specs.Programs.{model_of}
use Rattle.rules.proofs.TypeLemmas.{types_past, types_there}
use Rattle.rules.proofs.lowered.Program.parameter_types.Goals as goal

pub returns-in-Some : goal.returns-in-Some
returns-in-Some c =
    let p = model_of c.args.self.now in
    let n = c.args.method.0 in
    let types = c.in-Some.types.now in
    let look = c.in-Some.ensures.lookup in
    let there = ap (λ l. slice_get l n) (sym c.deref.ensures.value) ∙ slice_get_read c.deref.result.now _ n types refl look.3.0 look.1 in
    c.as_slice.ensures.value ∙ types_there c.args.self.now.parameters.items p.methods n types c.args.self.now.asked there

pub returns-in-None : goal.returns-in-None
returns-in-None c =
    let p = model_of c.args.self.now in
    let n = c.args.method.0 in
    let past = ap (λ l. slice_get l n) (sym c.deref.ensures.value) ∙ slice_get_past c.deref.result.now n c.in-None.ensures.lookup.3 in
    types_past c.args.self.now.parameters.items p.methods n c.args.self.now.asked past
