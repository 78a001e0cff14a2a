use Rattle.std.proofs.Common.{◌∙◌, [], ap, refl, sym}
use Rattle.std.specs.Prelude.{slice_get}
use Rattle.std.specs.Option.{option_map_or}
use Rattle.std.proofs.lemmas.Option.{slice_get_past, slice_get_read}
use Rattle.program.specs.Parts.{ContractModel, Parts}
use Rattle.contracts.specs.Leaving.{name_among}
use Rattle.contracts.specs.Sounds.{sound_parts}
use Rattle.rules.specs.Programs.{model_of}
use Rattle.rules.proofs.EndLemmas.{parts_past, parts_there, read_parts}
use Rattle.replays.proofs.naming.Naming.message_name.Goals as goal

pub returns-in-Some : goal.returns-in-Some
returns-in-Some c =
    let contracts = (model_of c.args.self.now.program.now).contracts in
    let n = c.args.contract.0 in
    let s = c.in-Some.sound.now in
    let look = c.in-Some.ensures.lookup in
    let there = slice_get_read c.sounds.result.now _ n s refl look.3.0 look.1 in
    c.message_name.ensures
    ∙ sym (read_parts (λ (x : Parts). name_among x.messages c.args.message.0) [] (slice_get contracts n) (sound_parts s) (parts_there c.sounds.result.now contracts n s c.sounds.ensures there))

pub returns-in-None : goal.returns-in-None
returns-in-None c =
    let contracts = (model_of c.args.self.now.program.now).contracts in
    let past = parts_past c.sounds.result.now contracts c.args.contract.0 c.sounds.ensures (slice_get_past c.sounds.result.now c.args.contract.0 c.in-None.ensures.lookup.3) in
    sym (ap (λ o. option_map_or (λ (x : ContractModel). name_among x.parts.messages c.args.message.0) o []) past)
