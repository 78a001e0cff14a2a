use Rattle.std.proofs.Common.{◌∙◌, slice_get, refl, sym, ap}
use Rattle.std.proofs.lemmas.Option.{slice_get-map, slice_get_read}
use Rattle.std.specs.Option.{option_map}
use Rattle.program.specs.Methods.{method_model}
use Rattle.program.specs.WellFormed.{IsWellFormed}
use Rattle.rules.specs.Programs.{model_of}
use Rattle.rules.proofs.EndLemmas.{each_at, option_numbered}
use Rattle.rules.proofs.lowered.Program.result_of.Goals as goal

pub returns-clause-numbered : goal.returns-clause-numbered
returns-clause-numbered c =
    let p = model_of c.args.self.now in
    let n = c.args.method.0 in
    let m = c.in_ok-get.field-0.now in
    let look = c.in_ok-get.ensures.lookup in
    let there = slice_get_read c.list.result.now _ n m refl look.3.0 look.1 in
    let told = ap (λ l. slice_get l n) (sym c.list.ensures.list) ∙ slice_get-map method_model c.list.result.now n ∙ ap (option_map method_model) there in
    let formed = each_at (IsWellFormed p) p.methods n (method_model m) c.list.ensures.well_formed.methods_are told in
    option_numbered c.args.self.now.sounds.items p.contracts m.result c.args.self.now.sound formed.result
