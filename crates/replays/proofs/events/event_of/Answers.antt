use Rattle.std.proofs.Common.{◌≡◌, ◌∙◌, ◌-◌, ℕ, List, [], ap, arith, drop, length, length-drop, subst, sym, take, take_all}
use Rattle.std.specs.List.{prefix_len}
use Rattle.std.proofs.lemmas.List.Sums.{prefix_len-le-length}
use Rattle.replays.specs.Fronts.{BeginsWith, is_space}
use Rattle.replays.proofs.EventLemmas.{an_event, at_none, event_behind, line_begins, no_length, some_length}
use Rattle.replays.proofs.FrontLemmas.{begins_once}
use Rattle.replays.proofs.events.event_of.Goals as goal

-- the bytes after a prefix of spaces, as the code takes them
behind_is : (rest : List ℕ) (n : ℕ) → n ≡ prefix_len is_space rest → take (length rest - n) (drop n rest) ≡ drop (prefix_len is_space rest) rest
behind_is rest n e = take_all (length rest - n) (drop n rest) (omega (arith, length-drop n rest)) ∙ ap (λ k. drop k rest) e

pub returns-in_err-process-clause-none : goal.returns-in_err-process-clause-none
returns-in_err-process-clause-none c = at_none c.from_residual.result (λ e l. c.in_err-process.ensures.none e.process _ (line_begins c.args.line.now e l))

pub returns-then-spaces-eq0-clause-none : goal.returns-then-spaces-eq0-clause-none
returns-then-spaces-eq0-clause-none c = λ e l.
    let b = event_behind c.args.line.now e _ _ l c.in_ok-process.ensures.some in
    omega (arith, b.some, c.spaces_at-spaces.ensures, c.if-spaces-eq0.true)

pub slice_bounds-number_at-count : goal.slice_bounds-number_at-count
slice_bounds-number_at-count c = omega (arith, c.spaces_at-spaces.ensures, prefix_len-le-length is_space c.in_ok-process.rest.now)

pub slice_bounds-number_at-start : goal.slice_bounds-number_at-start
slice_bounds-number_at-start c = omega (arith, c.spaces_at-spaces.ensures, prefix_len-le-length is_space c.in_ok-process.rest.now)

pub returns-in_err-choice-clause-none : goal.returns-in_err-choice-clause-none
returns-in_err-choice-clause-none c = at_none c.from_residual-in_err-choice.result (λ e l.
    let b = event_behind c.args.line.now e _ _ l c.in_ok-process.ensures.some in
    c.in_err-choice.ensures.none e.choice [] (subst (λ r. BeginsWith r e.choice []) (sym (behind_is c.in_ok-process.rest.now c.spaces_at-spaces.result c.spaces_at-spaces.ensures)) b.choice))

pub returns-then-is_empty-clause-some : goal.returns-then-is_empty-clause-some
returns-then-is_empty-clause-some c =
    let rest = c.in_ok-process.rest.now in
    let choice = subst (λ r. BeginsWith r c.in_ok-choice.choice c.in_ok-choice.behind.now) (behind_is rest c.spaces_at-spaces.result c.spaces_at-spaces.ensures) c.in_ok-choice.ensures.some in
    let ends = no_length c.in_ok-choice.behind.now (sym c.is_empty.ensures ∙ c.if-is_empty.true) in
    an_event c.args.line.now rest c.in_ok-process.process c.in_ok-choice.choice c.in_ok-process.ensures.some (omega (arith, c.spaces_at-spaces.ensures, c.if-spaces-eq0.false))
    (subst (λ b. BeginsWith (drop (prefix_len is_space rest) rest) c.in_ok-choice.choice b) ends choice)

pub returns-else-is_empty-clause-none : goal.returns-else-is_empty-clause-none
returns-else-is_empty-clause-none c = λ e l.
    let rest = c.in_ok-process.rest.now in
    let b = event_behind c.args.line.now e _ _ l c.in_ok-process.ensures.some in
    let choice = subst (λ r. BeginsWith r c.in_ok-choice.choice c.in_ok-choice.behind.now) (behind_is rest c.spaces_at-spaces.result c.spaces_at-spaces.ensures) c.in_ok-choice.ensures.some in
    let once = begins_once (drop (prefix_len is_space rest) rest) c.in_ok-choice.choice e.choice c.in_ok-choice.behind.now [] choice b.choice in
    some_length c.in_ok-choice.behind.now (sym c.is_empty.ensures ∙ c.if-is_empty.false) once.1
