use Rattle.std.proofs.Common.{◌≡◌, ◌<◌, ◌∙◌, ◌∷◌, length, get_or, sym, ap, subst, arith, false, rules, [], List, ℕ, refl}
use Rattle.std.proofs.Math.ListN.{replicate}
use Rattle.std.proofs.lemmas.Grind.{get_or_default_zero}
use Rattle.std.proofs.lemmas.List.Elements.{All-cons, All-nil}
use Rattle.contracts.specs.Graphs.{groups, group_at, Walk}
use Rattle.contracts.specs.Marking.{AreMarkSteps}
use Rattle.contracts.specs.Reached.{union}
use Rattle.contracts.proofs.HeightLemmas.{only_one}
use Rattle.contracts.proofs.JoinLemmas.{joined_length, joined_range, joined_row, row_within}
use Rattle.contracts.proofs.MarkLemmas.{begun, done, follow_on, listed_in, steps_append, steps_length}
use Rattle.contracts.proofs.PartLemmas.{at_place}
use Rattle.contracts.proofs.marking.reached_from.Goals as goal
use Rattle.contracts.proofs.marking.reached_from.Goals.{After-index-v, In_ok-mark}

abbrev both : (c : In_ok-mark) → List (List ℕ)
both c = union (groups c.args.sends.now) (groups c.args.receives.now)

long : (c : In_ok-mark) → length (both c) ≡ length (groups c.args.sends.now)
long c = joined_length (groups c.args.sends.now) (groups c.args.receives.now) c.requires.same

pub works-init : goal.works-init
works-init c =
    let empty : c.in_ok-marks.marks.items ≡ replicate c.len.result false = search rules in
    let none : c.in_ok-work.work.items ≡ [] = search rules in
    let size = long c in
    let first = c.requires.first in
    begun (both c) (c.args.first ∷ []) c.in_ok-marks.marks.items c.mark.new.marks.items c.in_ok-work.work.items c.mark.new.work.items
    (empty ∙ ap (λ n. replicate n false) (c.len.ensures ∙ sym size)) none
    (All-cons (λ s. s < length (both c)) c.args.first [] (omega (arith, size, first)) (All-nil (λ s. s < length (both c))))
    (c.mark.new.marks.items, (c.mark.new.work.items, c.in_ok-mark.ensures.step, (refl, refl)))

in_work : (c : After-index-v) → get_or c.works.work.items c.works.at 0 ≡ c.index-v.result.now
in_work c = let lt = c.works-test.true in let e = c.len-in-works.ensures in sym (c.index-v.ensures ∙ get_or_default_zero c.works.work.items c.works.at c.index-v.result.now (grind (arith, lt, e)))

in_graph : (c : After-index-v) → c.index-v.result.now < length (groups c.args.sends.now)
in_graph c =
    let lt = c.works-test.true in
    let e = c.len-in-works.ensures in
    let graph = union (groups c.args.sends.now) (groups c.args.receives.now) in
    let size = joined_length (groups c.args.sends.now) (groups c.args.receives.now) c.requires.same in
    let below = listed_in graph (c.args.first ∷ []) c.works.marks.items c.works.work.items c.works.at c.works.invariant.marking (omega (arith, lt, e)) in
    let is = in_work c in
    omega (arith, below, is, size)

marks_long : (c : After-index-v) → length c.works.marks.items ≡ length (groups c.args.sends.now)
marks_long c = c.works.invariant.marking.long ∙ joined_length (groups c.args.sends.now) (groups c.args.receives.now) c.requires.same

pub group-requires : goal.group-requires
group-requires c = in_graph (goal.at.group-requires c).After-index-v

pub mark_each-requires : goal.mark_each-requires
mark_each-requires c =
    let before = (goal.at.mark_each-requires c).After-index-v in
    record { below = row_within (groups c.args.sends.now) c.group.result.now (length c.works.marks.items) c.index-v.result.now c.requires.sends (sym (marks_long before)) c.group.ensures }

pub group-requires-in-works : goal.group-requires-in-works
group-requires-in-works c = let below = in_graph (goal.at.group-requires-in-works c).After-index-v in let same = c.requires.same in omega (arith, below, same)

pub mark_each-requires-in-works : goal.mark_each-requires-in-works
mark_each-requires-in-works c =
    let before = (goal.at.mark_each-requires-in-works c).After-index-v in
    let kept = steps_length c.works.marks.items c.mark_each.new.marks.items c.works.work.items c.mark_each.new.work.items c.group.result.now c.in_ok-mark_each.ensures.steps in
    record {
      below = row_within (groups c.args.receives.now) c.group-in-works.result.now (length c.mark_each.new.marks.items) c.index-v.result.now c.requires.receives
          (c.requires.same ∙ sym (marks_long before) ∙ sym kept) c.group-in-works.ensures;
    }

pub works-smaller : goal.works-smaller
works-smaller c =
    let lt = c.works-test.true in
    let e = c.len-in-works.ensures in
    let size = joined_length (groups c.args.sends.now) (groups c.args.receives.now) c.requires.same in
    let room = c.works.invariant.marking.room in
    omega (arith, lt, e, size, room)

pub works-preserved : goal.works-preserved
works-preserved c =
    let sends = groups c.args.sends.now in
    let receives = groups c.args.receives.now in
    let v = c.index-v.result.now in
    let old = c.works.marks.items in
    let new = c.mark_each-in-works.new.marks.items in
    let work = c.works.work.items in
    let more = c.mark_each-in-works.new.work.items in
    let lt = c.works-test.true in
    let e = c.len-in-works.ensures in
    let first = subst (AreMarkSteps old c.mark_each.new.marks.items work c.mark_each.new.work.items) c.group.ensures c.in_ok-mark_each.ensures.steps in
    let second = subst (AreMarkSteps c.mark_each.new.marks.items new c.mark_each.new.work.items more) c.group-in-works.ensures c.in_ok-mark_each-2.ensures.steps in
    follow_on (union sends receives) (c.args.first ∷ []) old new work more c.works.at v
    (joined_range sends receives c.requires.same c.requires.sends c.requires.receives)
    (in_work (goal.at.works-preserved c).After-index-v) (omega (arith, lt, e)) c.works.invariant
    (subst (AreMarkSteps old new work more) (sym (joined_row sends receives v))
    (steps_append old c.mark_each.new.marks.items new work c.mark_each.new.work.items more (group_at sends v) (group_at receives v) first second))

pub returns-clause-long : goal.returns-clause-long
returns-clause-long c = c.works.invariant.marking.long ∙ joined_length (groups c.args.sends.now) (groups c.args.receives.now) c.requires.same

pub returns-clause-reached : goal.returns-clause-reached
returns-clause-reached c =
    let graph = union (groups c.args.sends.now) (groups c.args.receives.now) in
    let first = c.args.first in
    let stop = c.works-test.false in
    let e = c.len-in-works.ensures in
    record {
      right = λ v is. let r = c.works.invariant.marking.right v is in
          (r.1.0, subst (λ s. Walk graph s v r.1.0) (sym (only_one first r.0 r.1.1)) r.1.2);
      all = λ v n walk. done graph (first ∷ []) c.works.marks.items c.works.work.items c.works.at c.works.invariant (omega (arith, stop, e)) v
          (first, (n, at_place (first ∷ []) 0 0 (omega arith), walk));
    }
