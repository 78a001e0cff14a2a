use Rattle.std.proofs.Common.{◌∙◌, List, [], slice_get, refl, sym, ap, subst}
use Rattle.std.proofs.lemmas.Option.{slice_get-map, slice_get_past, slice_get_read}
use Rattle.std.specs.Prelude.{All}
use Rattle.std.specs.Option.{option_map, option_map_or}
use Rattle.program.specs.WellFormed.{AreFields, field_types}
use Rattle.program.specs.declared.types.HeapType.{HeapType}
use Rattle.rules.specs.Endpoints.{declared_leaf}
use Rattle.rows.specs.Leaves.{IsNumbered}
use Rattle.rules.specs.Programs.{model_of}
use Rattle.rules.proofs.EndLemmas.{each_at, types_numbered}
use Rattle.rules.proofs.lowered.Program.field_types.Goals as goal

pub returns-in-Some-clause-numbered : goal.returns-in-Some-clause-numbered
returns-in-Some-clause-numbered c =
    let p = model_of c.args.self.now in
    let n = c.in-Struct.number.0 in
    let types = c.in-Some.types.now in
    let look = c.in-Some.ensures.lookup in
    let there = slice_get_read c.structs.result.now _ n types refl look.3.0 look.1 in
    let told = ap (λ l. slice_get l n) (sym c.structs.ensures.structs) ∙ slice_get-map (λ types. types.items) c.structs.result.now n ∙ ap (option_map (λ types. types.items)) there in
    let fields = each_at (AreFields p.contracts) p.structs n types.items c.structs.ensures.types told in
    subst (All (λ (ty : HeapType). IsNumbered (declared_leaf ty))) (sym c.as_slice.ensures.value)
    (types_numbered c.args.self.now.sounds.items p.contracts types.items c.args.self.now.sound fields.types_are)

pub returns-in-None-clause-types : goal.returns-in-None-clause-types
returns-in-None-clause-types c =
    let n = c.in-Struct.number.0 in
    let past = ap (λ l. slice_get l n) (sym c.structs.ensures.structs) ∙ slice_get-map (λ types. types.items) c.structs.result.now n ∙ ap (option_map (λ types. types.items)) (slice_get_past c.structs.result.now n c.in-None.ensures.lookup.3) in
    sym (ap (field_types (model_of c.args.self.now).structs) c.in-Struct.is ∙ ap (λ o. option_map_or (λ (x : List HeapType). x) o []) past)
