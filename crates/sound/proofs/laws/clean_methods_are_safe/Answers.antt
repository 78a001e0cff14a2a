use Rattle.program.specs.Programs.{program_model}
use Rattle.sound.proofs.Contracts.{all_sound}
use Rattle.sound.proofs.laws.clean_methods_are_safe.Goals as goal

pub returns : goal.returns
returns c =
    let p = program_model c.args.methods.now in
    λ bound bounds nothing n w entry run.
    c.empty_report_is_safe.ensures p bound c.list.ensures.well_formed (all_sound p c.args.sounds.now c.requires.sound) bounds nothing n w
    entry run
