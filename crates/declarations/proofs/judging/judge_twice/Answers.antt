use Rattle.std.proofs.Common.{ap, ◌∙◌, sym, subst, get_or, true≢false}
use Rattle.std.specs.Prelude.{option_and_then, slice_get}
use Rattle.declarations.specs.Listed.{twice}
use Rattle.source.specs.declared.token.Span.{Span}
use Rattle.tables.specs.Firsts.{first_of}
use Rattle.declarations.specs.Mistakes.{Adds}
use Rattle.tables.specs.Words.{words_at}
use Rattle.declarations.proofs.TwiceLemmas.{apart_adds, twice_start, twice_end, twice_step, twice_here, first_adds, later_adds}
use Rattle.declarations.proofs.judging.judge_twice.Goals as goal
use Rattle.declarations.proofs.judging.judge_twice.Goals.{then-not-is_at+in_ok-add_twice, else-not-is_at}

nowhere : Span
nowhere = record { start = 0; end = 0; place = record { line = 0; col = 0 } }

pub returns-then-is_apart : goal.returns-then-is_apart
unfolding nowhere
returns-then-is_apart c = λ h. apart_adds c.args.text.now c.args.names.now nowhere c.args.found.now.items ((c.is_apart.ensures _ h).0 c.if-is_apart.true)

pub loop-index-init : goal.loop-index-init
loop-index-init c = λ h. twice_start c.args.text.now c.args.names.now c.args.found.now.items

pub loop-index-preserved : goal.loop-index-preserved
unfolding nowhere
loop-index-preserved c = λ h.
    let text = c.args.text.now in
    let names = c.args.names.now in
    let i = c.loop-index.index in
    let name = get_or names i nowhere in
    let old = c.loop-index.found.items in
    let words = words_at text names in
    let first = c.is_at.ensures in
    let at = c.find-first.ensures _ h ∙ ap (first_of words) c.slice.ensures in
    twice_step text names i nowhere _ old _ (c.loop-index.invariant h) c.loop-index-test.true
    (elim c.if-not-is_at.branch [
      | then-not-is_at+in_ok-add_twice w ↦
          subst (λ v. Adds old v.items (twice_here text names i name)) (sym w.found-is)
          (later_adds text names i nowhere old _ c.loop-index-test.true
          (λ e. true≢false (sym (first.1 (at ∙ e)) ∙ w.if-not-is_at.true))
          (subst (λ o. Adds old w.add_twice.new.found.items (twice name o)) (w.first_named.ensures ∙ ap (option_and_then (slice_get names)) at) w.in_ok-add_twice.ensures))
      | else-not-is_at w ↦
          subst (λ v. Adds old v.items (twice_here text names i name)) (sym w.found-is)
          (first_adds text names i nowhere old c.loop-index-test.true (sym at ∙ first.0 w.if-not-is_at.false))
    ])

pub returns : goal.returns
returns c = λ h. twice_end (c.loop-index.invariant h) c.loop-index-test.false
