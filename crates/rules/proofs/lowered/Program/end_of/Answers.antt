use Rattle.std.proofs.Common.{◌∙◌, Some, slice_get, refl, sym, ap, subst}
use Rattle.std.proofs.lemmas.Option.{slice_get_read}
use Rattle.contracts.specs.Sounds.{sound_parts}
use Rattle.rules.specs.Ends.{IsEndOf}
use Rattle.rules.specs.Programs.{model_of}
use Rattle.rules.proofs.EndLemmas.{end_there, parts_there}
use Rattle.rules.proofs.lowered.Program.end_of.Goals as goal

pub returns-in_ok-sound-in-Endpoint : goal.returns-in_ok-sound-in-Endpoint
returns-in_ok-sound-in-Endpoint c =
    let p = model_of c.args.self.now in
    let e = c.in-Endpoint in
    let s = c.in_ok-sound-in-Endpoint.sound.now in
    let look = c.in_ok-sound-in-Endpoint.ensures.lookup in
    let there = ap (λ l. slice_get l e.contract.0) (sym c.deref.ensures.value) ∙ slice_get_read c.deref.result.now _ e.contract.0 s refl look.3.0 look.1 in
    subst (λ k. IsEndOf p k (sound_parts s) e.side) (sym (c.in_ok-contract.was ∙ ap Some e.is))
    (end_there p e.contract e.side e.state (sound_parts s) (parts_there c.args.self.now.sounds.items p.contracts e.contract.0 s c.args.self.now.sound there))
