use Rattle.std.proofs.Common.{◌≡◌, ◌≤◌, arith, length, refl, subst, sym}
use Rattle.std.proofs.lemmas.Bool.{true≢false}
use Rattle.std.proofs.lemmas.List.{length-map, nil_from_length}
use Rattle.machine.specs.Views.{block_model, blocks_model}
use Rattle.machine.specs.World.{block_at}
use Rattle.lost.specs.Marks.{BlockHolds, AddsMarks, to_do}
use Rattle.lost.specs.declared.marking.Reach.{Reach}
use Rattle.lost.proofs.CoverLemmas.{covers_all, covers_on, none_left, one_less}
use Rattle.lost.proofs.marking.Reach.follow_all.Goals as goal

pub loop-round-init : goal.loop-round-init
loop-round-init c = record { covers = λ w same covers. covers; rounds = λ few. omega (arith, few) }

pub loop-round-preserved : goal.loop-round-preserved
loop-round-preserved c =
    let r = c.loop-round.self in
    let s : Reach = record { marks = r.marks; pending = c.pop.new.self } in
    let t = c.follow.new.self in
    let v = c.in-Some.address in
    let taken = c.in-Some.ensures.items in
    record {
      covers = λ w same covers.
          covers_on w r s t v refl taken (subst (λ bs. AddsMarks (BlockHolds (block_at bs v)) s t) (sym same) c.in_ok-follow.ensures)
          (c.loop-round.invariant.covers w same covers);
      rounds = λ few.
          let before = c.loop-round.invariant.rounds few in
          let less = one_less r s t v (BlockHolds (block_at (blocks_model c.args.blocks.now) v)) refl taken c.in_ok-follow.ensures in
          omega (arith, before, less);
    }

pub returns-in_default : goal.returns-in_default
returns-in_default c = λ w same covers few.
    let r = c.loop-round.self in
    let none = none_left r.pending.items
    (λ some. true≢false (sym (c.in_default.ensures.variant.1 (omega (arith, some, r.pending.ok.0))))) in
    covers_all w r (c.loop-round.invariant.covers w same covers) none

pub returns : goal.returns
returns c = λ w same covers few.
    let r = c.loop-round.self in
    let rounds = c.loop-round.invariant.rounds (subst (λ n. to_do c.args.self.now ≤ n) (length-map c.args.blocks.now block_model) few) in
    let none : length r.pending.items ≡ 0 = omega (arith, rounds, c.loop-round-test.false) in
    covers_all w r (c.loop-round.invariant.covers w same covers) (nil_from_length r.pending.items none)
