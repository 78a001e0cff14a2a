use Rattle.std.proofs.Common.{◌∙◌, ◌++◌, ap, length}
use Rattle.machine.specs.Views.{world_model}
use Rattle.replays.specs.Remains.{left_lines, waits_lines}
use Rattle.replays.specs.RunLines.{conditions_line, end_line}
use Rattle.replays.specs.Telling.{tracer_words}
use Rattle.replays.proofs.LineLemmas.{five_added}
use Rattle.replays.proofs.tracer.Tracer.add_run.Goals as goal

pub returns : goal.returns
returns c =
    let words = (tracer_words c.args.self.now).words in
    let j = c.args.journal.now in
    let w = world_model j.world in
    five_added j.lines.items (end_line c.args.end (length j.events.items)) (waits_lines words w) (left_lines words w.blocks c.args.lost.now)
    (conditions_line j.conditions) c.args.answer.now.items c.add.new.answer.items c.add_end.new.answer.items c.add_waits.new.answer.items
    c.add_left.new.answer.items c.add_conditions.new.answer.items
    (c.in_ok-add.ensures ∙ ap (λ l. c.args.answer.now.items ++ l) c.deref.ensures.value)
    (c.in_ok-add_end.ensures ∙ ap (λ n. c.add.new.answer.items ++ end_line c.args.end n) (c.len.ensures ∙ j.events.ok.0))
    c.in_ok-add_waits.ensures
    (c.in_ok-add_left.ensures ∙ ap (λ bs. c.add_waits.new.answer.items ++ left_lines words bs c.args.lost.now) c.blocks-2.ensures.seen)
    c.in_ok-add_conditions.ensures
