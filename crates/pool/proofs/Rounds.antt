-- Steals from one of several deques, and passes of all of them.
use Rattle.std.proofs.Common.{suc, ◌≡◌, ℕ, ◌<◌, List, [], ◌∷◌, ◌++◌, length, set, get_or, All, refl, sym, ap, ◌∙◌, subst, arith, length-set, get_or-set_same, get_or-set_other}
use Rattle.std.proofs.lemmas.List.Elements.{All-set}
use Rattle.std.proofs.lemmas.List.Sums.{sum_by-cons}
use Rattle.std.specs.Prelude.{slice_index_or}
use native.Mathlib.Decide.{ℕ_discrete}
use Rattle.crossbeam_deque.specs.Handles.{view, worker_view, IsPassOf, stealer_deque}
use Rattle.crossbeam_deque.specs.Steals.{MatchSteal}
use Rattle.crossbeam_deque.specs.declared.steal.Steal.{Steal}
use Rattle.crossbeam_deque.specs.declared.steal.Steal.TheVariants.{Empty, Success, Retry}
use Rattle.tasks.specs.declared.task.Task.{Task}
use Rattle.pool.specs.declared.held.HeldTask.{HeldTask}
use Rattle.pool.specs.declared.held.Hand.{Hand}
use Rattle.pool.specs.Rule.{hand, copies, IsPart}
use Rattle.pool.specs.Counts.{DequeOwner, Ticket, taken_by}
use Rattle.pool.specs.Owners.{AreThieves, Thief}
use Rattle.pool.specs.Rounds.{AreNew, AreRound, IsFresh}
use Rattle.pool.proofs.Shares.{taken_one}

-- a steal changes neither the parts nor the tasks put
pub after_steal : (s : Steal HeldTask) (v w : Hand) (E F : Type 0)
    → MatchSteal s ((w ≡ v) × E) ((w ≡ v) × F) (λ x. (w ≡ hand v.parts v.put (v.taken ++ x ∷ [])) × IsPart v.put (x ∷ []))
    → (w.parts ≡ v.parts) × (w.put ≡ v.put)
after_steal Empty v w E F h = (ap (λ (u : Hand). u.parts) h.0, ap (λ (u : Hand). u.put) h.0)
after_steal (Success x) v w E F h = (ap (λ (u : Hand). u.parts) h.0, ap (λ (u : Hand). u.put) h.0)
after_steal Retry v w E F h = (ap (λ (u : Hand). u.parts) h.0, ap (λ (u : Hand). u.put) h.0)

one_success : (x y : HeldTask) → Path (Steal HeldTask) (Success x) (Success y) → x ≡ y
one_success x y e = cc

-- a stolen task may be run
pub stolen : (P : HeldTask → Type 0) (s : Steal HeldTask) (v w : Hand) (E F : Type 0) → All P v.put
    → MatchSteal s ((w ≡ v) × E) ((w ≡ v) × F) (λ x. (w ≡ hand v.parts v.put (v.taken ++ x ∷ [])) × IsPart v.put (x ∷ []))
    → (held : HeldTask) → s ≡ Success held → P held
stolen P Empty v w E F all h held is = cc
stolen P (Success x) v w E F all h held is = subst P (one_success x held is) (taken_one P v.put x h.1 all)
stolen P Retry v w E F all h held is = cc

-- the passes after a steal are still a round
pub round_set : (takes : Task → Type 0) (thieves : List Thief) (ps : List Ticket) (d : ℕ) (q : Ticket) → AreRound takes thieves ps → d < length thieves
    → ((t : Thief) → IsPassOf (stealer_deque (slice_index_or thieves d t)) q) → (view q).parts ≡ 1 → All (λ (x : HeldTask). takes x.task) (view q).put
    → AreRound takes thieves (set ps d q)
round_set takes thieves ps d q r in_place pass part tasks = record {
  lengths = length-set ps d q ∙ r.lengths;
  passes = λ j t p below. at j t p below (ℕ_discrete j d);
  parts = All-set (λ (x : Ticket). (view x).parts ≡ 1) ps d q part r.parts;
  tasks = All-set (λ (x : Ticket). All (λ (y : HeldTask). takes y.task) (view x).put) ps d q tasks r.tasks;
  fifo = r.fifo;
}
  where
    at : (j : ℕ) (t : Thief) (p : Ticket) → j < length thieves → Dec (j ≡ d) → IsPassOf (stealer_deque (slice_index_or thieves j t)) (slice_index_or (set ps d q) j p)
    at j t p below (yes e) =
        let here : get_or (set ps d q) d p ≡ q = get_or-set_same ps d q p (omega (arith, r.lengths)) in
        subst (λ (i : ℕ). IsPassOf (stealer_deque (slice_index_or thieves i t)) (slice_index_or (set ps d q) i p)) (sym e)
        (subst (λ (x : Ticket). IsPassOf (stealer_deque (slice_index_or thieves d t)) x) (sym here) (pass t))
    at j t p below (no n) =
        let there : get_or (set ps d q) j p ≡ get_or ps j p = get_or-set_other ps d j q p n in
        subst (λ (x : Ticket). IsPassOf (stealer_deque (slice_index_or thieves j t)) x) (sym there) (r.passes j t p below)

-- passes that have taken nothing count nothing
pub none_taken : (n : ℕ) (ps : List Ticket) → All (λ (p : Ticket). (view p).taken ≡ []) ps → taken_by n ps ≡ 0
none_taken n [] none = refl
none_taken n (p ∷ ps) none =
    let here : copies n (view p).taken ≡ copies n [] = ap (copies n) (none 0 p (omega arith)) in
    let rest : taken_by n ps ≡ 0 = none_taken n ps (λ d q below. none (suc d) q (omega arith)) in
    omega (arith, sum_by-cons (λ (q : Ticket). copies n (view q).taken) p ps)

-- new passes of all deques are a round for whoever steals from them, and have taken nothing
pub fresh_round : (takes : Task → Type 0) (owners : List DequeOwner) (thieves : List Thief) (ps : List Ticket) (o : DequeOwner) → AreThieves owners thieves
    → All (λ (x : DequeOwner). All (λ (y : HeldTask). takes y.task) (worker_view x).put) owners → AreNew owners ps → IsFresh takes thieves ps
fresh_round takes owners thieves ps o are tasks new = record {
  round = record {
    lengths = new.lengths ∙ sym are.lengths;
    passes = λ d t p below. subst (λ x. IsPassOf x (slice_index_or ps d p)) (sym (are.each d o t (omega (arith, are.lengths)))) (new.each d o p (omega (arith, are.lengths))).pass;
    parts = λ d p below. (new.each d o p (omega (arith, new.lengths))).part;
    tasks = λ d p below. subst (All (λ (y : HeldTask). takes y.task)) (sym (new.each d o p (omega (arith, new.lengths))).put) (tasks d o (omega (arith, new.lengths)));
    fifo = are.fifo;
  };
  none = λ n. none_taken n ps (λ d p below. (new.each d o p (omega (arith, new.lengths))).none);
}
