use Rattle.std.proofs.Common.{arith, rules, ◌≡◌, ◌++◌, ap, sym, ◌∙◌, subst}
use Rattle.atomic_table.specs.Table.{Me}
use Rattle.atomic_table.specs.Seated.{TableId}
use Rattle.intern.specs.View.{View, Knowledge, IsInside}
use Rattle.intern.proofs.RuleLemmas.{joins, looks}
use Rattle.intern.proofs.ViewLemmas.{holds_left, holds_right, joined_grows, inside_both, inside_gained}
use Rattle.intern.proofs.IdLemmas.{faithful}
use Rattle.intern.proofs.row_table.Rows.join.Goals as goal

pub join_seat-requires : goal.join_seat-requires
join_seat-requires c = (search rules, search rules, search rules, search rules, joins _ _ _ _ _)

pub load-requires : goal.load-requires
load-requires c = (search rules, search rules, looks _ _ _ _ _)

-- the joined seat's view, before the load
both : (c : goal.After-load) → c.join_seat.new.seat.me.0.0 ≡ c.args.a.inner.me.0.0 ++ c.args.b.inner.me.0.0
both c = ap (λ (m : Me (Unit {0}) Knowledge). m.0.0) c.join_seat.ensures.2

pub invariant_of-result : goal.invariant_of-result
invariant_of-result c = let id : c.load.new.seat.table_id ≡ c.args.self.now.table.shared.table_id = c.load.ensures.0 ∙ (c.join_seat.ensures.0 ∙ c.requires.a) in
    let a : IsInside c.args.self.now.table.shared.table_id.words c.args.a.inner.me.0.0 = subst (λ (t : TableId). IsInside t.words c.args.a.inner.me.0.0) c.requires.a c.args.a.inside in
    let b : IsInside c.args.self.now.table.shared.table_id.words c.args.b.inner.me.0.0 = subst (λ (t : TableId). IsInside t.words c.args.b.inner.me.0.0) c.requires.b c.args.b.inside in
    let whole = subst (λ (v : View). IsInside c.args.self.now.table.shared.table_id.words v) (sym (both c)) (inside_both _ _ _ a b) in
    let some = c.args.self.now.sized.0 in
    let after = inside_gained _ _ 0 c.load.result (omega arith) whole in
    record {
      sound = c.load.ensures.2.sound;
      inside = subst (λ (z : TableId × View). IsInside z.0.words z.1) (λ i. (sym id i, sym c.load.ensures.2.gains i)) after;
      no_slots = c.load.ensures.2.slots ∙ (ap (λ (m : Me (Unit {0}) Knowledge). m.1) c.join_seat.ensures.2 ∙ c.args.a.no_slots);
    }

pub returns-clause-a : goal.returns-clause-a
returns-clause-a c = λ s w h. joined_grows c.args.a.inner.me.0.0 c.args.b.inner.me.0.0 _ _ _ _ (ap (λ (m : Me (Unit {0}) Knowledge). m.0.0) c.join_seat.ensures.2) c.load.ensures.2.gains s w (holds_left _ c.args.b.inner.me.0.0 s w h)

pub returns-clause-b : goal.returns-clause-b
returns-clause-b c = λ s w h. joined_grows c.args.a.inner.me.0.0 c.args.b.inner.me.0.0 _ _ _ _ (ap (λ (m : Me (Unit {0}) Knowledge). m.0.0) c.join_seat.ensures.2) c.load.ensures.2.gains s w (holds_right c.args.a.inner.me.0.0 _ s w h)

pub returns-clause-faithful : goal.returns-clause-faithful
returns-clause-faithful c = faithful _ c.load.ensures.2.sound
