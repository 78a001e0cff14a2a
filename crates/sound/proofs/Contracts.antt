-- The contracts of a program are whole and sound: they have the parts of contracts whose type keeps them sound.
use Rattle.std.proofs.Common.{◌≡◌, ℕ, zero, suc, ◌<◌, List, [], ◌∷◌, Some, length, map, sym, ap, ◌∙◌, subst, arith, inl, inr, ⊎_elim}
use Rattle.std.specs.Prelude.{◌⊎◌, Contains, get_or, slice_get}
use Rattle.std.specs.Coded.{le_prop}
use Rattle.std.proofs.Math.Logic.{∥∥₁_elim}
use Rattle.std.proofs.Math.Nat.{ℕ_set}
use Rattle.std.proofs.lemmas.Bool.{cases_eq}
use Rattle.program.specs.Parts.{ContractModel, IsWhole, Parts, message_ids, state_ids}
use Rattle.program.specs.Programs.{ProgramModel}
use Rattle.program.specs.declared.number.MessageId.{MessageId}
use Rattle.program.specs.declared.number.StateId.{StateId}
use Rattle.contracts.specs.Conditions.{IsSound}
use Rattle.contracts.specs.Sounds.{sound_parts}
use Rattle.contracts.specs.declared.sound.Sound.{Sound}
use Rattle.machine.specs.Outcomes.{QueueBounds}
use Rattle.machine.specs.Runs.{AreBounds}
use Rattle.sound.specs.Premises.{AreSound}
use Rattle.sound.proofs.Invariant.{IsSoundProgram}
use Rattle.sound.proofs.Edges.{contains_more}
use Rattle.sound.proofs.Quiet.{contains_first}

abbrev Decided : Type 0 → Type 0
Decided A = A ⊎ (A → ⊥)

once_more : {X : Type 0} (xs : List X) (x y : X) → (y ≡ x → ⊥) → (Contains xs x → ⊥) → Contains (y ∷ xs) x → ⊥
once_more xs x y other none c = by c.0 c.1 c.2
  where
    by : (k : ℕ) → k < suc (length xs) → get_or (y ∷ xs) k x ≡ x → ⊥
    by zero short is = other is
    by (suc k) short is = none (k, omega arith, is)

-- whether a list contains an element, if equality of elements is decidable
has : {X : Type 0} → ((a b : X) → Decided (a ≡ b)) → (xs : List X) (x : X) → Decided (Contains xs x)
has same [] x = inr (λ c. let short = c.1 in omega arith)
has same (y ∷ xs) x =
    ⊎_elim (λ e. inl (subst (λ z. Contains (z ∷ xs) x) (sym e) (contains_first x xs)))
    (λ other. ⊎_elim (λ c. inl (contains_more xs y x c)) (λ none. inr (once_more xs x y other none)) (has same xs x)) (same y x)

same_state : (a b : StateId) → Decided (a ≡ b)
same_state a b =
    ⊎_elim (λ e. inl (ap (λ (n : ℕ). record { 0 = n }) e)) (λ n. inr (λ e. n (ap (λ (q : StateId). q.0) e))) (cases_eq a.0 b.0)

same_message : (a b : MessageId) → Decided (a ≡ b)
same_message a b =
    ⊎_elim (λ e. inl (ap (λ (n : ℕ). record { 0 = n }) e)) (λ n. inr (λ e. n (ap (λ (m : MessageId). m.0) e))) (cases_eq a.0 b.0)

no_two : (x y : ⊥) → x ≡ y
no_two x y = absurd x

is_so : {A : Type 0} → Decided A → ((A → ⊥) → ⊥) → A
is_so (inl a) twice = a
is_so (inr never) twice = absurd (twice never)

-- From the bare fact that parts are whole, the proof is found again: each part of it can be looked up.
pub whole_of : (parts : Parts) → ∥ IsWhole parts ∥₁ → IsWhole parts
whole_of parts t = record {
  first = is_so (has same_state (state_ids parts) parts.first) (λ no. ∥∥₁_elim t no_two (λ w. no w.first));
  from = λ e there. is_so (has same_state (state_ids parts) e.from) (λ no. ∥∥₁_elim t no_two (λ w. no (w.from e there)));
  to = λ e there. is_so (has same_state (state_ids parts) e.to) (λ no. ∥∥₁_elim t no_two (λ w. no (w.to e there)));
  message = λ e there. is_so (has same_message (message_ids parts) e.message) (λ no. ∥∥₁_elim t no_two (λ w. no (w.message e there)));
  states_once = λ i j d before short e. ∥∥₁_elim t no_two (λ w. w.states_once i j d before short e);
  messages_once = λ i j d before short e. ∥∥₁_elim t no_two (λ w. w.messages_once i j d before short e);
  states_consecutive = λ i short. ∥∥₁_elim t (ℕ_set _ _) (λ w. w.states_consecutive i short);
  messages_consecutive = λ i short. ∥∥₁_elim t (ℕ_set _ _) (λ w. w.messages_consecutive i short);
  numbered = λ k d short. ∥∥₁_elim t le_prop (λ w. w.numbered k d short);
}

-- a contract is whole and sound if all contracts have the parts of sound ones
sound_at : (sounds : List Sound) (contracts : List ContractModel) (n : ℕ) (c : ContractModel)
    → map sound_parts sounds ≡ map (λ (x : ContractModel). x.parts) contracts → slice_get contracts n ≡ Some c
    → ∥ IsWhole c.parts ∥₁ × IsSound c.parts
sound_at [] [] n c same there = absurd (cc)
sound_at [] (d ∷ contracts) n c same there = absurd (cc)
sound_at (s ∷ sounds) [] n c same there = absurd (cc)
sound_at (s ∷ sounds) (d ∷ contracts) zero c same there =
    let head : sound_parts s ≡ d.parts = cc in
    let here : d ≡ c = cc in
    subst (λ (parts : Parts). ∥ IsWhole parts ∥₁ × IsSound parts) (head ∙ ap (λ (x : ContractModel). x.parts) here) (s.whole, s.sound)
sound_at (s ∷ sounds) (d ∷ contracts) (suc n) c same there = sound_at sounds contracts n c (cc) there

pub all_sound : (p : ProgramModel) (sounds : List Sound) → map sound_parts sounds ≡ map (λ (x : ContractModel). x.parts) p.contracts
    → AreSound p
all_sound p sounds same = record {
  whole = λ n c there. (sound_at sounds p.contracts n c same there).0;
  sound = λ n c there. (sound_at sounds p.contracts n c same there).1;
}

-- the requirements on contracts, in the form that the proofs use
pub sound_program : (p : ProgramModel) (bound : QueueBounds) → AreSound p → AreBounds p bound → IsSoundProgram p bound
sound_program p bound sound bounds = record {
  whole = λ n c there. whole_of c.parts (sound.whole n c there);
  sound = sound.sound;
  bounds = λ c x side there. bounds.are c x side there;
}
