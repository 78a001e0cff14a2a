use Rattle.std.proofs.Common.{◌∙◌, List, [], slice_get, refl, sym, ap, subst}
use Rattle.std.proofs.lemmas.Option.{slice_get-map, slice_get_past, slice_get_read}
use Rattle.std.specs.Prelude.{All}
use Rattle.std.specs.Option.{option_map, option_map_or}
use Rattle.program.specs.WellFormed.{IsType}
use Rattle.program.specs.Lists.{Each}
use Rattle.program.specs.declared.types.HeapType.{HeapType}
use Rattle.rules.specs.Endpoints.{declared_leaf}
use Rattle.rows.specs.Leaves.{IsNumbered}
use Rattle.rules.specs.Programs.{model_of}
use Rattle.rules.proofs.EndLemmas.{each_at, types_numbered}
use Rattle.rules.proofs.lowered.Program.payload_types.Goals as goal

pub returns-in-Some-clause-numbered : goal.returns-in-Some-clause-numbered
returns-in-Some-clause-numbered c =
    let p = model_of c.args.self.now in
    let n = c.args.message.0 in
    let types = c.in-Some.types.now in
    let look = c.in-Some.ensures.lookup in
    let there = slice_get_read c.messages.result.now _ n types refl look.3.0 look.1 in
    let told = ap (λ l. slice_get l n) (sym c.messages.ensures.messages) ∙ slice_get-map (λ types. types.items) c.messages.result.now n ∙ ap (option_map (λ types. types.items)) there in
    subst (All (λ (ty : HeapType). IsNumbered (declared_leaf ty))) (sym c.as_slice.ensures.value)
    (types_numbered c.args.self.now.sounds.items p.contracts types.items c.args.self.now.sound (each_at (Each (IsType p.contracts)) p.messages n types.items c.messages.ensures.types told))

pub returns-in-None-clause-types : goal.returns-in-None-clause-types
returns-in-None-clause-types c =
    let n = c.args.message.0 in
    let past = ap (λ l. slice_get l n) (sym c.messages.ensures.messages) ∙ slice_get-map (λ types. types.items) c.messages.result.now n ∙ ap (option_map (λ types. types.items)) (slice_get_past c.messages.result.now n c.in-None.ensures.lookup.3) in
    sym (ap (λ o. option_map_or (λ (x : List HeapType). x) o []) past)
