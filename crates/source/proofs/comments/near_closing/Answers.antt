use Rattle.std.proofs.Common.{suc, ◌<◌, ◌≡◌, length, get_or, ap, ◌∙◌, arith, ⊎_elim}
use Rattle.std.proofs.lemmas.Bool.{cases_lt}
use Rattle.source.proofs.NeedleLemmas.{none_yet, occurs}
use Rattle.source.proofs.comments.near_closing.Goals as goal
use Rattle.source.proofs.comments.near_closing.Goals.{else-body-i-eq42-via-then-body-i-eq42+else-body-i-eq47, else-body-i-eq42-via-else-body-i-eq42}

pub returns-then-body-i-eq47-clause-some : goal.returns-then-body-i-eq47-clause-some
returns-then-body-i-eq47-clause-some c =
    let body = c.args.body.now in
    let i = c.loop-i.i in
    let within : suc i < length body = omega (arith, c.loop-i-test.true, c.min-i-end.ensures, c.saturating_sub.ensures) in
    let slash : get_or body (suc i) 0 ≡ 47 = ap (λ n. get_or body n 0) (omega arith) ∙ c.if-body-i-eq47.true in
    (record { low = omega arith; high = omega (arith, within); before = λ j low lt h. c.loop-i.invariant j lt h }, occurs body i within c.if-body-i-eq42.true slash)

pub loop-i-preserved : goal.loop-i-preserved
loop-i-preserved c =
    none_yet c.args.body.now c.loop-i.i c.loop-i.invariant
    (elim c.else-body-i-eq42.branch [
      | else-body-i-eq42-via-then-body-i-eq42+else-body-i-eq47 w ↦ λ star slash. w.if-body-i-eq47.false slash
      | else-body-i-eq42-via-else-body-i-eq42 w ↦ λ star slash. w.if-body-i-eq42.false star
    ])

pub returns-clause-none : goal.returns-clause-none
returns-clause-none c = λ k low near h.
    ⊎_elim (λ less. c.loop-i.invariant k less h)
    (λ far. absurd (omega (arith, h.fits, near, far, c.loop-i-test.false, c.min-i-end.ensures, c.saturating_sub.ensures)))
    (cases_lt k c.loop-i.i)
