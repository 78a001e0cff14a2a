use Rattle.std.proofs.Common.{◌∙◌, ap}
use Rattle.machine.specs.Runs.{start_of}
use Rattle.machine.specs.Views.{world_model}
use Rattle.replays.specs.Telling.{tracer_words}
use Rattle.replays.proofs.JournalLemmas.{none}
use Rattle.replays.proofs.tracer.Tracer.begin.Goals as goal

pub returns-clause-journal : goal.returns-clause-journal
returns-clause-journal c = λ bound are.
    let t = tracer_words c.args.self.now in
    none t bound (start_of t.words.program c.args.method.0) (world_model c.in_ok-world.world) c.new.result.items c.new-2.result.items
    c.new.ensures.items (c.in_ok-world.ensures ∙ ap (λ p. start_of p c.args.method.0) c.program.ensures) c.new-2.ensures.items
