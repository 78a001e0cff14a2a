use Rattle.std.proofs.Common.{◌∙◌, slice_get, refl, sym, ap}
use Rattle.std.proofs.lemmas.Option.{slice_get_past, slice_get_read}
use Rattle.std.specs.Option.{option_map_or}
use Rattle.program.specs.Parts.{ContractModel, Parts}
use Rattle.rules.specs.Programs.{model_of}
use Rattle.rules.proofs.EndLemmas.{parts_past, parts_there, read_parts}
use Rattle.contracts.specs.Sounds.{sound_parts}
use Rattle.rules.proofs.lowered.Program.first_state.Goals as goal

pub returns-in-Some-clause-state : goal.returns-in-Some-clause-state
returns-in-Some-clause-state c =
    let p = model_of c.args.self.now in
    let n = c.args.contract.0 in
    let s = c.in-Some.sound.now in
    let look = c.in-Some.ensures.lookup in
    let there = ap (λ l. slice_get l n) (sym c.deref.ensures.value) ∙ slice_get_read c.deref.result.now _ n s refl look.3.0 look.1 in
    ap (λ q. q.0) c.first.ensures.first
    ∙ sym (read_parts (λ (x : Parts). x.first.0) 0 (slice_get p.contracts n) (sound_parts s) (parts_there c.args.self.now.sounds.items p.contracts n s c.args.self.now.sound there))

pub returns-in-None-clause-state : goal.returns-in-None-clause-state
returns-in-None-clause-state c =
    let p = model_of c.args.self.now in
    let n = c.args.contract.0 in
    let past = ap (λ l. slice_get l n) (sym c.deref.ensures.value) ∙ slice_get_past c.deref.result.now n c.in-None.ensures.lookup.3 in
    sym (ap (λ o. option_map_or (λ (x : ContractModel). x.parts.first.0) o 0) (parts_past c.args.self.now.sounds.items p.contracts n c.args.self.now.sound past))
