use Rattle.std.proofs.Common.{refl}
use Rattle.std.proofs.lemmas.Option.{slice_get_read, slice_get_past}
use Rattle.contracts.specs.Sounds.{sound_parts}
use Rattle.rules.specs.Programs.{model_of}
use Rattle.rules.proofs.EndLemmas.{parts_past, parts_there}
use Rattle.machine.proofs.BoundLemmas.{bound_is, bound_past}
use Rattle.machine.proofs.edges.bound_at.Goals as goal

pub returns-in-Some : goal.returns-in-Some
returns-in-Some c = λ bound are.
    let p = model_of c.args.program.now in
    let s = c.in-Some.sound.now in
    let n = c.args.contract.0 in
    let look = c.in-Some.ensures.lookup in
    let there = slice_get_read c.sounds.result.now _ n s refl look.3.0 look.1 in
    bound_is p bound n c.args.side (sound_parts s) c.bound.result are (parts_there c.sounds.result.now p.contracts n s c.sounds.ensures there) c.bound.ensures

pub returns-in-None : goal.returns-in-None
returns-in-None c = λ bound are.
    let p = model_of c.args.program.now in
    let n = c.args.contract.0 in
    bound_past p bound n c.args.side are (parts_past c.sounds.result.now p.contracts n c.sounds.ensures (slice_get_past c.sounds.result.now n c.in-None.ensures.lookup.3))
