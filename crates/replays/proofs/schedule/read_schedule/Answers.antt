use Rattle.std.proofs.Common.{◌∙◌, ◌∷◌, [], ap, arith, inr, length, length-take, refl, subst, sym, take, min}
use Rattle.std.proofs.lemmas.Result.{err_from_is_err_and}
use Rattle.std.specs.Prelude.{Err}
use Rattle.replays.specs.Fronts.{AddsTold}
use Rattle.replays.specs.Schedules.{ReadsSchedule, lines_of, without_comment}
use Rattle.replays.specs.declared.limits.TheConstants.{MOST_SCHEDULE}
use Rattle.replays.proofs.ScheduleLemmas.{IsSoFar, at_first, goes_on, is_first, is_schedule, lines_last, lines_more, refused}
use Rattle.replays.proofs.schedule.read_schedule.Goals as goal

pub returns-in_err-add_event : goal.returns-in_err-add_event
returns-in_err-add_event c =
    let exit = err_from_is_err_and c.from_residual.result c.from_residual.ensures.1 in
    let lines = lines_more c.lines.rest.now c.in-Some.line.now c.in-Some.behind.now c.in-Some.ensures.some in
    subst (ReadsSchedule c.args.bytes.now) (sym (exit.1 ∙ ap Err exit.2))
    (refused c.args.bytes.now c.lines.rest.now _ _ c.lines.number c.lines.events.items _ c.lines.invariant.so_far (lines ∙ ap (λ l. l ∷ lines_of c.in-Some.behind.now) (sym (c.without_comment.ensures ∙ ap without_comment c.without_return.ensures))) c.in_err-add_event.ensures.fault)

pub lines-smaller : goal.lines-smaller
lines-smaller c = c.in-Some.ensures.shorter

pub lines-init : goal.lines-init
lines-init c = record {
  short = omega (arith, c.min.ensures, length-take c.min.result c.args.bytes.now);
  so_far = subst (λ n. IsSoFar (take (min MOST_SCHEDULE (length c.args.bytes.now)) c.args.bytes.now) (take n c.args.bytes.now) 1 c.new-events.result.items) (sym c.min.ensures)
      (at_first (take (min MOST_SCHEDULE (length c.args.bytes.now)) c.args.bytes.now) c.new-events.result.items c.new-events.ensures.items);
}

pub lines-preserved : goal.lines-preserved
lines-preserved c = record {
  short = omega (arith, c.lines.invariant.short, c.in-Some.ensures.shorter);
  so_far = goes_on _ c.lines.rest.now c.in-Some.line.now c.in-Some.behind.now c.lines.number c.lines.events.items c.add_event.new.events.items c.lines.invariant.so_far c.in-Some.ensures.some
      (subst (λ l. AddsTold l c.lines.events.items c.add_event.new.events.items) (c.without_comment.ensures ∙ ap without_comment c.without_return.ensures) c.in_ok-add_event.ensures.told);
}

pub returns-then-bytes-gt-MOST_SCHEDULE : goal.returns-then-bytes-gt-MOST_SCHEDULE
returns-then-bytes-gt-MOST_SCHEDULE c =
    is_first c.args.bytes.now c.lines.rest.now _ [] c.lines.number c.lines.events.items c.lines.invariant.so_far (lines_last c.lines.rest.now c.in_default.ensures.none) (inr (c.if-bytes-gt-MOST_SCHEDULE.true, refl))

pub returns-in_err-add_event-2 : goal.returns-in_err-add_event-2
returns-in_err-add_event-2 c =
    let exit = err_from_is_err_and c.from_residual-in_err-add_event-2.result c.from_residual-in_err-add_event-2.ensures.1 in
    subst (ReadsSchedule c.args.bytes.now) (sym (exit.1 ∙ ap Err exit.2))
    (refused c.args.bytes.now c.lines.rest.now _ [] c.lines.number c.lines.events.items _ c.lines.invariant.so_far (lines_last c.lines.rest.now c.in_default.ensures.none ∙ ap (λ l. l ∷ []) (sym c.without_comment-2.ensures)) c.in_err-add_event-2.ensures.fault)

pub returns : goal.returns
returns c =
    is_schedule c.args.bytes.now c.lines.rest.now c.lines.number c.lines.events.items _ c.if-bytes-gt-MOST_SCHEDULE.false c.lines.invariant.so_far c.in_default.ensures.none
    (subst (λ l. AddsTold l c.lines.events.items c.add_event-2.new.events.items) c.without_comment-2.ensures c.in_ok-add_event-2.ensures.told)
