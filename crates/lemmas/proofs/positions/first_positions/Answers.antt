use Rattle.std.proofs.Common.{[], ◌∷◌, ◌++◌, Some, cond, take, sym, ap, ◌∙◌, arith}
use Rattle.std.specs.Option.{unwrap_or}
use Rattle.std.specs.BTreeMap.{get}
use Rattle.std.specs.Ordering.{eq_by_cmp}
use Rattle.std.proofs.lemmas.Cmp.{eq_by_cmp_equiv}
use Rattle.std.proofs.lemmas.List.{take_more, take_all, length-take-le}
use Rattle.lemmas.specs.Places.{first_position}
use Rattle.lemmas.proofs.FirstPlaces.{position_entered}
use Rattle.lemmas.proofs.positions.first_positions.Goals as goal

pub loop-i-preserved : goal.loop-i-preserved
loop-i-preserved g c = λ k.
    let cmp = g.K.Ord.cmp in
    let laws = eq_by_cmp_equiv g.met.K.Ord.total in
    let keys = c.args.keys.now in
    let i = c.loop-i.i in
    let key = c.index-keys-i.result in
    let more = take_more keys i key c.loop-i-test.true ∙ ap (λ x. take i keys ++ x ∷ []) (sym c.index-keys-i.is) in
    let size = length-take-le i keys (omega (arith, c.loop-i-test.true)) in
    let value = ap (λ o. unwrap_or o i) (c.loop-i.invariant key) ∙ ap (unwrap_or (first_position cmp (take i keys) key)) (sym size) in
    c.in_ok-enter.ensures k ∙ ap (λ o. cond (eq_by_cmp cmp key k) (Some (unwrap_or (get cmp c.loop-i.positions key) i)) o) (c.loop-i.invariant k)
    ∙ position_entered (eq_by_cmp cmp) laws (take i keys) key k (unwrap_or (get cmp c.loop-i.positions key) i) value
    ∙ sym (ap (λ l. first_position cmp l k) more)

pub returns : goal.returns
returns g c = λ k. c.loop-i.invariant k ∙ ap (λ l. first_position g.K.Ord.cmp l k) (take_all c.loop-i.i c.args.keys.now c.loop-i-test.false)
