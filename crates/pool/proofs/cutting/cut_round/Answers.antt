use Rattle.std.proofs.Common.{arith, ◌≡◌, ◌<◌, ◌++◌, [], ◌∷◌, ℕ, List, subst, sym, ap, ◌∙◌, length, get_or, length-append}
use Rattle.std.proofs.lemmas.List.{get_or_append_left, get_or_push}
use Rattle.pool.specs.Counts.{DequeOwner, Ticket}
use Rattle.pool.specs.Owners.{CutOff, owner_parts}
use Rattle.pool.proofs.Places.{done_more, left_more, length_one}
use Rattle.pool.proofs.cutting.cut_round.Goals as goal

pub cut_at-requires-clause-part : goal.cut_at-requires-clause-part
cut_at-requires-clause-part c = λ o.
    let i = c.loop-index.invariant in
    subst (λ (w : DequeOwner). 1 < owner_parts w) (sym (i.left c.loop-index.index o (omega arith)))
    (c.requires.parts c.loop-index.index o (omega (arith, c.loop-index-test.true, c.len-index-end.ensures, c.args.owners.now.ok.0)))

pub loop-index-preserved : goal.loop-index-preserved
loop-index-preserved c =
    let i = c.loop-index.invariant in
    let d = c.loop-index.index in
    let start = c.args.owners.now.items in
    let old = c.loop-index.owners.items in
    let passes = c.loop-index.passes.items in
    let passes' = c.push.new.self.items in
    let one = c.cut_at.ensures in
    let items : passes' ≡ passes ++ c.cut_at.result ∷ [] = c.in_ok-push.ensures.items in
    let size = length-append passes (c.cut_at.result ∷ []) in
    let many = ap length items in
    let here : d < length old = omega (arith, c.loop-index-test.true, c.len-index-end.ensures, i.len, c.args.owners.now.ok.0) in
    let last : (p : Ticket) → get_or passes' d p ≡ c.cut_at.result = λ p. ap (λ (l : List Ticket). get_or l d p) items ∙ get_or_push passes c.cut_at.result p d i.count in
    let earlier : (k : ℕ) (p : Ticket) → k < d → get_or passes' k p ≡ get_or passes k p = λ k p below. ap (λ (l : List Ticket). get_or l k p) items ∙ get_or_append_left passes (c.cut_at.result ∷ []) p k (omega (arith, i.count)) in
    record {
      len = length_one d _ _ _ one ∙ i.len;
      count = omega (arith, many, size, i.count);
      done = done_more d _ start old _ here one (λ k o n. (p : Ticket) → CutOff o n (get_or passes' k p)) (λ o. i.left d o (omega arith))
          (λ p. subst (CutOff one.old one.new) (sym (last p)) one.changes)
          (λ k o below p. subst (CutOff (get_or start k o) (get_or old k o)) (sym (earlier k p below)) (i.done k o below p));
      left = left_more d _ start old _ here one i.left;
    }

pub returns : goal.returns
returns c =
    let i = c.loop-index.invariant in
    let all : length c.args.owners.now.items ≡ c.loop-index.index = omega (arith, c.loop-index-test.false, c.loop-index.auto.index-end, c.len-index-end.ensures, c.args.owners.now.ok.0) in
    record {
      lengths = i.len;
      count = omega (arith, i.count, all);
      each = λ d o p below. i.done d o (omega (arith, all)) p;
    }
