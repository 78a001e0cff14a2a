use Rattle.std.proofs.Common.{◌≡◌, ◌<◌, Option, Some, length, ℕ, sym, subst, arith}
use Rattle.machine.specs.BlockViews.{blocks_model}
use Rattle.machine.proofs.FreeLemmas.{IsOnWay, left_over, way_begins, way_there, way_on, way_less}
use Rattle.machine.proofs.ChangeLemmas.{seen_length}
use Rattle.machine.proofs.freeing.free.Goals as goal

pub way-init : goal.way-init
way-init c = record {
  way = way_begins (blocks_model c.args.blocks.now.items) c.args.a c.requires.held c.requires.brought c.requires.owned;
  counted = c.requires.counted;
}

pub free_step-at-requires-clause-there : goal.free_step-at-requires-clause-there
free_step-at-requires-clause-there c =
    let old = blocks_model c.args.blocks.now.items in
    let now = blocks_model c.way.blocks.items in
    let h : IsOnWay old c.args.a now (Some c.in-Some.x) =
    subst (λ (at : Option ℕ). IsOnWay old c.args.a now at) c.in-Some.is c.way.invariant.way in
    let short : c.in-Some.x < length now = way_there old c.args.a now c.in-Some.x h in
    let long : length now ≡ length c.way.blocks.items = seen_length c.way.blocks.items in
    omega arith

pub way-smaller : goal.way-smaller
way-smaller c =
    let old = blocks_model c.args.blocks.now.items in
    let now = blocks_model c.way.blocks.items in
    let new = blocks_model c.free_step-at.new.blocks.items in
    let h : IsOnWay old c.args.a now (Some c.in-Some.x) =
    subst (λ (at : Option ℕ). IsOnWay old c.args.a now at) c.in-Some.is c.way.invariant.way in
    subst (λ (at : Option ℕ). left_over new c.free_step-at.result < left_over now at) (sym c.in-Some.is)
    (way_less old c.args.a now new c.in-Some.x c.free_step-at.result h c.free_step-at.ensures.steps)

pub way-preserved : goal.way-preserved
way-preserved c =
    let old = blocks_model c.args.blocks.now.items in
    let now = blocks_model c.way.blocks.items in
    let new = blocks_model c.free_step-at.new.blocks.items in
    let h : IsOnWay old c.args.a now (Some c.in-Some.x) =
    subst (λ (at : Option ℕ). IsOnWay old c.args.a now at) c.in-Some.is c.way.invariant.way in
    record {
      way = way_on old c.args.a now new c.in-Some.x c.free_step-at.result h c.free_step-at.ensures.steps;
      counted = c.free_step-at.ensures.counted;
    }
