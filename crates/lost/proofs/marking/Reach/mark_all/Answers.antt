use Rattle.std.proofs.Common.{◌≤◌, Contains, arith, get_or, length, refl, subst, take_all}
use Rattle.lost.specs.Marks.{AddsMarks}
use Rattle.lost.proofs.MarkLemmas.{marks_item}
use Rattle.lost.proofs.marking.Reach.mark_all.Goals as goal

pub loop-address-preserved : goal.loop-address-preserved
loop-address-preserved c =
    let xs = c.args.addresses.now in
    let i = c.loop-address.address-index in
    marks_item (λ a. a) xs i (get_or xs i 0) 0 c.args.self.now c.loop-address.self c.mark.new.self c.loop-address-test.true refl
    c.loop-address.invariant c.in_ok-mark.ensures

pub returns : goal.returns
returns c =
    let xs = c.args.addresses.now in
    let past : length xs ≤ c.loop-address.address-index = omega arith in
    subst (λ l. AddsMarks (Contains l) c.args.self.now c.loop-address.self) (take_all c.loop-address.address-index xs past)
    c.loop-address.invariant
