-- Which variables may be given something without allocating, and that they still may after edits.
use Rattle.std.proofs.Common.{◌≡◌, ℕ, ◌+◌, ◌<◌, ◌≤◌, List, length, get_or, set, refl, sym, ap, ◌∙◌, subst, inl, inr, arith}
use Rattle.std.specs.List.{insert}
use Rattle.std.proofs.lemmas.Bool.{cases_lt}
use Rattle.std.proofs.lemmas.List.{get_or_default, length-set}
use Rattle.std.proofs.lemmas.List.Edits.{get_or-insert_above, length-insert}
use Rattle.program.specs.declared.number.VarId.{VarId}
use Rattle.machine.specs.Bindings.{AllMayTake, IsAt, MayTake, has_binding, no_variable, no_binding}
use Rattle.machine.specs.declared.variables.Binding.{Binding}
use Rattle.machine.proofs.BindingLemmas.{insert_below, insert_here, set_at_same}

-- after a binding is overwritten, the same variables may
pub put_may : (count : ℕ) (l : List Binding) (v at : ℕ) (b : Binding) → IsAt l v at → b.variable ≡ v → (u : ℕ) → MayTake count l u → MayTake count (set l at b) u
put_may count l v at b is same u (has_binding i here) =
    has_binding i record { within = omega (arith, length-set l at b, here.within); same = set_at_same l at b is.within (is.same ∙ sym same) i ∙ here.same }
put_may count l v at b is same u (no_variable past) = no_variable past

pub list_may : (count : ℕ) (l : List Binding) (at : ℕ) (b : Binding) → at ≤ length l → (u : ℕ) → MayTake count l u → MayTake count (insert l at b) u
list_may count l at b le u (no_variable past) = no_variable past
list_may count l at b le u (has_binding i here) = elim (cases_lt i at) [
  | inl lt ↦ has_binding i record { within = omega (arith, length-insert l at b le, here.within); same = insert_below l at b le i lt ∙ here.same }
  | inr ge ↦ has_binding (i + 1) record {
    within = omega (arith, length-insert l at b le, here.within);
    same = ap (λ (x : Binding). x.variable) (get_or-insert_above l at b no_binding i ge le) ∙ here.same;
  }
]

-- the variable of a new binding may
pub listed_may : (count : ℕ) (l : List Binding) (v at : ℕ) (b : Binding) → at ≤ length l → b.variable ≡ v → MayTake count (insert l at b) v
listed_may count l v at b le same =
    has_binding at record { within = omega (arith, length-insert l at b le); same = insert_here l at b le at refl ∙ same }

-- all of these variables may, if each that might before still may
pub all_still : (m n : ℕ) (old new : List Binding) (variables : List VarId) → ((u : ℕ) → MayTake m old u → MayTake n new u) → AllMayTake m old variables → AllMayTake n new variables
all_still m n old new variables still all = record { may = λ k d lt. still _ (all.may k d lt) }

-- this many of the first variables may
pub record FirstMayTake (count : ℕ) (l : List Binding) (variables : List VarId) (done : ℕ) : Type 0 where
  pub may : (k : ℕ) (d : VarId) → k < done → MayTake count l (get_or variables k d).0

pub first_none : (count : ℕ) (l : List Binding) (variables : List VarId) → FirstMayTake count l variables 0
first_none count l variables = record { may = λ k d lt. absurd (omega arith) }

pub first_more : (m n : ℕ) (old new : List Binding) (variables : List VarId) (done : ℕ) (d : VarId) → done < length variables
    → ((u : ℕ) → MayTake m old u → MayTake n new u) → MayTake n new (get_or variables done d).0 → FirstMayTake m old variables done
    → FirstMayTake n new variables (done + 1)
first_more m n old new variables done d lt still here first = record {
  may = λ k e below. elim (cases_lt k done) [
    | inl less ↦ still _ (first.may k e less)
    | inr more ↦
        let is : done ≡ k = omega arith in
        subst (λ (i : ℕ). MayTake n new (get_or variables i e).0) is
        (subst (λ (v : VarId). MayTake n new v.0) (get_or_default variables done d e lt) here)
  ];
}

pub all_take : (count : ℕ) (l : List Binding) (variables : List VarId) (done : ℕ) → length variables ≤ done → FirstMayTake count l variables done
    → AllMayTake count l variables
all_take count l variables done le first = record { may = λ k d lt. first.may k d (omega arith) }
