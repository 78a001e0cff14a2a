-- What is reached is marked in the end, and nothing else.
use Rattle.std.proofs.Common.{◌≡◌, ◌⊎◌, ◌∷◌, ◌++◌, ◌∙◌, ◌+◌, ◌<◌, ◌≤◌, ℕ, Bool, false, List, [], Contains, ap, arith, count_by}
use Rattle.std.proofs.Common.{inl, inr, length, not, refl, replicate, subst, sym, ⊎_elim}
use Rattle.std.proofs.lemmas.Bool.{cases_lt, true≢false}
use Rattle.std.proofs.lemmas.List.{get_or_past, get_or-replicate, length-replicate, length_push}
use Rattle.std.proofs.lemmas.List.Elements.{Contains-append_left, Contains-push, Contains-push_cases}
use Rattle.std.proofs.lemmas.List.Sums.{count_by-le-length}
use Rattle.contracts.specs.Marking.{IsMarked}
use Rattle.machine.specs.World.{World, block_at, no_block}
use Rattle.lost.specs.Lost.{IsReached, by_field, by_message, by_variable}
use Rattle.lost.specs.Marks.{AreMarked, AreMarkedSoFar, HaveAny, BlockHolds, HoldsOnlyMarked, IsMarkedIfThere, AddsMarks, to_do}
use Rattle.lost.specs.declared.marking.Reach.{Reach}
use Rattle.lost.proofs.MarkLemmas.{any_default, none_in}

-- what a variable of a process has is reached
have_reached : (w : World) (a : ℕ) → HaveAny w.processes a → IsReached w a
have_reached w a is = by_variable is.0 is.2.0 a is.1 is.2.1 is.2.2

-- what a reached block holds is reached
pub held_reached : (w : World) (b a : ℕ) → IsReached w b → BlockHolds (block_at w.blocks b) a → IsReached w a
held_reached w b a is (inl field) = by_field b a is field
held_reached w b a is (inr message) = by_message b a message.0 is message.1 message.2

-- where there is no block, nothing is held
pub none_held : (w : World) (b a : ℕ) → length w.blocks ≤ b → BlockHolds (block_at w.blocks b) a → ⊥
none_held w b a past is =
    ⊎_elim (λ field. none_in [] a refl field) (λ message. none_in [] message.0 refl message.1)
    (subst (λ x. BlockHolds x a) (get_or_past w.blocks b no_block past) is)

-- if what variables have is marked, and what marked blocks hold, all that is reached is marked
all_known : (w : World) (marks : List Bool) → length marks ≡ length w.blocks → ((a : ℕ) → HaveAny w.processes a → IsMarkedIfThere marks a)
    → ((a : ℕ) → IsMarked marks a → HoldsOnlyMarked w.blocks marks a) → (a : ℕ) → IsReached w a → IsMarkedIfThere marks a
all_known w marks long starts closed a is = known a is
  where
    held : (b x : ℕ) → IsMarkedIfThere marks b → BlockHolds (block_at w.blocks b) x → IsMarkedIfThere marks x
    held b x is h = ⊎_elim
        (λ less. closed b (sym (any_default marks b less) ∙ is) x h)
        (λ past. absurd (none_held w b x (omega (arith, long, past)) h))
        (cases_lt b (length marks))

    known : (x : ℕ) → IsReached w x → IsMarkedIfThere marks x
    known _ (by_variable stack f x there inside has) = starts x (stack, there, (f, inside, has))
    known _ (by_field b x reached has) = held b x (known b reached) (inl has)
    known _ (by_message b x m reached inside has) = held b x (known b reached) (inr (m, inside, has))

-- nothing is marked at first
none_marked : (n a : ℕ) → IsMarked (replicate n false) a → ⊥
none_marked n a is = ⊎_elim
    (λ less. true≢false (sym is ∙ get_or-replicate n a false false less))
    (λ past. true≢false (sym is ∙ get_or_past (replicate n false) a false (omega (arith, past, length-replicate n false))))
    (cases_lt a n)

-- what the variables of processes have is marked first
pub covers_start : (w : World) (r s : Reach) → r.marks.items ≡ replicate (length w.blocks) false → r.pending.items ≡ []
    → AddsMarks (HaveAny w.processes) r s → AreMarkedSoFar w s
covers_start w r s marks pending step = record {
  starts = step.all;
  right = λ a is. ⊎_elim (λ old. absurd (unmarked a old)) (λ waits. reached a waits) (step.only a is);
  pending = reached;
  each = λ a is. ⊎_elim (λ old. absurd (unmarked a old)) (λ waits. inl waits) (step.only a is);
  long = step.long ∙ (ap (λ l. length l) marks ∙ length-replicate (length w.blocks) false);
}
  where
    unmarked : (a : ℕ) → IsMarked r.marks.items a → ⊥
    unmarked a is = none_marked (length w.blocks) a (subst (λ l. IsMarked l a) marks is)

    reached : (a : ℕ) → Contains s.pending.items a → IsReached w a
    reached a waits = ⊎_elim
        (λ old. absurd (none_in r.pending.items a pending old))
        (λ has. have_reached w a has)
        (step.pending a waits)

-- at first there is at most one round for each block
pub few_to_do : (n : ℕ) (r s : Reach) (Of : ℕ → Type 0) → r.marks.items ≡ replicate n false → r.pending.items ≡ [] → AddsMarks Of r s
    → to_do s ≤ n
few_to_do n r s Of marks pending step =
    let e = step.count in
    let f : length r.pending.items ≡ 0 = ap (λ l. length l) pending in
    let g = count_by-le-length not r.marks.items in
    let h : length r.marks.items ≡ n = ap (λ l. length l) marks ∙ length-replicate n false in
    omega (arith, e, f, g, h)

-- the block at a pending address is followed
module _ (w : World) (r s t : Reach) (v : ℕ) (marks : s.marks.items ≡ r.marks.items) (taken : r.pending.items ≡ s.pending.items ++ v ∷ [])
    (step : AddsMarks (BlockHolds (block_at w.blocks v)) s t) where
  before : (a : ℕ) → Contains s.pending.items a → Contains r.pending.items a
  before a is = subst (λ l. Contains l a) (sym taken) (Contains-append_left s.pending.items (v ∷ []) a is)

  front : Contains r.pending.items v
  front = subst (λ l. Contains l v) (sym taken) (Contains-push s.pending.items v)

  pub covers_on : AreMarkedSoFar w r → AreMarkedSoFar w t
  covers_on covers = record {
    starts = λ a is. step.keeps a (subst (λ l. IsMarkedIfThere l a) (sym marks) (covers.starts a is));
    right = λ a is. ⊎_elim
        (λ old. covers.right a (subst (λ l. IsMarked l a) marks old))
        (λ waits. reached a waits)
        (step.only a is);
    pending = reached;
    each = λ a is. ⊎_elim (λ old. each a (subst (λ l. IsMarked l a) marks old)) (λ waits. inl waits) (step.only a is);
    long = step.long ∙ (ap (λ l. length l) marks ∙ covers.long);
  }
    where
      reached : (a : ℕ) → Contains t.pending.items a → IsReached w a
      reached a waits = ⊎_elim
          (λ old. covers.pending a (before a old))
          (λ has. held_reached w v a (covers.pending v front) has)
          (step.pending a waits)

      each : (a : ℕ) → IsMarked r.marks.items a → Contains t.pending.items a ⊎ HoldsOnlyMarked w.blocks t.marks.items a
      each a is = ⊎_elim
          (λ waits. ⊎_elim
          (λ still. inl (step.waits a still))
          (λ same. inr (λ x has. step.all x (subst (λ b. BlockHolds (block_at w.blocks b) x) (sym same) has)))
          (Contains-push_cases s.pending.items v a (subst (λ l. Contains l a) taken waits)))
          (λ done. inr (λ x has. step.keeps x (subst (λ l. IsMarkedIfThere l x) (sym marks) (done x has))))
          (covers.each a is)

-- one round less is left
pub one_less : (r s t : Reach) (v : ℕ) (Of : ℕ → Type 0) → s.marks.items ≡ r.marks.items → r.pending.items ≡ s.pending.items ++ v ∷ []
    → AddsMarks Of s t → to_do t + 1 ≡ to_do r
one_less r s t v Of marks taken step =
    let e = step.count in
    let f : length r.pending.items ≡ length s.pending.items + 1 = ap (λ l. length l) taken ∙ length_push s.pending.items v in
    let g : count_by not s.marks.items ≡ count_by not r.marks.items = ap (count_by not) marks in
    omega (arith, e, f, g)

-- a list without a first value
pub none_left : (xs : List ℕ) → (0 < length xs → ⊥) → xs ≡ []
none_left [] none = refl
none_left (x ∷ xs) none = absurd (none (omega arith))

-- once nothing is pending, exactly what is reached is marked
pub covers_all : (w : World) (r : Reach) → AreMarkedSoFar w r → r.pending.items ≡ [] → AreMarked w r.marks.items
covers_all w r covers none = record {
  long = covers.long;
  right = covers.right;
  all = all_known w r.marks.items covers.long covers.starts (λ a is. ⊎_elim
      (λ waits. absurd (none_in r.pending.items a none waits))
      (λ done. done)
      (covers.each a is));
}
