use Rattle.std.proofs.Common.{◌≡◌, Some, None, [], slice_get, sym, ap, ◌∙◌}
use Rattle.std.specs.Option.{option_map_or}
use Rattle.std.proofs.lemmas.Option.{slice_get-get_or}
use Rattle.contracts.specs.Leaving.{name_among}
use Rattle.contracts.specs.Sounds.{sound_parts}
use Rattle.contracts.specs.declared.sound.Sound.{Sound}
use Rattle.rules.specs.Programs.{model_of}
use Rattle.traces.proofs.NameLemmas.{name_along, nothing_past}
use Rattle.traces.proofs.teller.Teller.message_name.Goals as goal

pub returns-in-Some : goal.returns-in-Some
returns-in-Some c =
    let look = c.in-Some.ensures.lookup in
    let n = c.in-Some-Endpoint.contract.0 in
    let at : slice_get c.sounds.result.now n ≡ Some c.in-Some.sound.now
    = slice_get-get_or c.sounds.result.now n c.in-Some.sound.now look.3.0 ∙ ap Some (sym look.1) in
    c.message_name.ensures
    ∙ sym (ap (λ o. option_map_or (λ (s : Sound). name_among (sound_parts s).messages c.args.message.0) o []) at)
    ∙ name_along (model_of c.args.self.now.program.now) _ c.in-Some-Endpoint.contract _ _ c.sounds.result.now c.args.message.0 (sym (ap Some c.in-Some-Endpoint.field-0-is) ∙ c.in-Some-Endpoint.ensures) c.sounds.ensures

pub returns-in-None : goal.returns-in-None
returns-in-None c =
    let n = c.in-Some-Endpoint.contract.0 in
    let at : slice_get c.sounds.result.now n ≡ None = nothing_past c.sounds.result.now n c.in-None.ensures.lookup.3 in
    sym (ap (λ o. option_map_or (λ (s : Sound). name_among (sound_parts s).messages c.args.message.0) o []) at)
    ∙ name_along (model_of c.args.self.now.program.now) _ c.in-Some-Endpoint.contract _ _ c.sounds.result.now c.args.message.0 (sym (ap Some c.in-Some-Endpoint.field-0-is) ∙ c.in-Some-Endpoint.ensures) c.sounds.ensures
