-- Variables that go out of scope, the innermost first.
use Rattle.std.proofs.Common.{◌≡◌, ℕ, zero, suc, true, false, List, [], ◌∷◌, ◌++◌, Some, None, refl, sym, ap, ◌∙◌, ⊎_elim, set}
use Rattle.std.specs.Prelude.{Option, if◌then◌else◌}
use Rattle.std.proofs.lemmas.Bool.Decides.{eqb_tells}
use Rattle.std.proofs.lemmas.List.{set_comm}
use Rattle.program.specs.Methods.{VariableModel}
use Rattle.program.specs.declared.number.VarId.{VarId}
use Rattle.program.specs.Scopes.{outer_of}
use Rattle.rules.specs.Scopes.{between, is_this}
use Rattle.machine.specs.Frames.{out_of_scope}

none_set : (xs : List (Option ℕ)) (a b : ℕ) → set (set xs a None) b None ≡ set (set xs b None) a None
none_set xs a b = ⊎_elim (λ h. let e : a ≡ b = h.1 in rw e refl) (λ h. set_comm xs a b None None h.1) (eqb_tells a b)

forgotten_set : (xs : List (Option ℕ)) (gone : List ℕ) (v : ℕ) → out_of_scope (set xs v None) gone ≡ set (out_of_scope xs gone) v None
forgotten_set xs [] v = refl
forgotten_set xs (a ∷ gone) v = ap (λ ys. out_of_scope ys gone) (none_set xs v a) ∙ forgotten_set (set xs a None) gone v

forgotten_last : (xs : List (Option ℕ)) (gone : List ℕ) (v : ℕ) → out_of_scope xs (gone ++ v ∷ []) ≡ set (out_of_scope xs gone) v None
forgotten_last xs [] v = refl
forgotten_last xs (a ∷ gone) v = forgotten_last (set xs a None) gone v

pub walk_none : (vs : List VariableModel) (n : ℕ) (outer : Option VarId) → between vs n outer None ≡ []
walk_none vs zero outer = refl
walk_none vs (suc n) outer = refl

pub walk_stops : (vs : List VariableModel) (n : ℕ) (outer : Option VarId) (v : VarId) → is_this v outer ≡ true → between vs n outer (Some v) ≡ []
walk_stops vs zero outer v h = refl
walk_stops vs (suc n) outer v h = ap (λ t. if t then [] else between vs n outer (outer_of vs v) ++ v.0 ∷ []) h

pub walk_done : (vs : List VariableModel) (n : ℕ) (outer at : Option VarId) → n ≡ 0 → between vs n outer at ≡ []
walk_done vs n outer at e = ap (λ m. between vs m outer at) e

pub walk_more : (xs : List (Option ℕ)) (vs : List VariableModel) (n m : ℕ) (outer : Option VarId) (v : VarId) → is_this v outer ≡ false → n ≡ suc m → out_of_scope (set xs v.0 None) (between vs m outer (outer_of vs v)) ≡ out_of_scope xs (between vs n outer (Some v))
walk_more xs vs n m outer v h e =
    let inner : List ℕ = between vs m outer (outer_of vs v) in
    forgotten_set xs inner v.0
    ∙ (sym (forgotten_last xs inner v.0)
    ∙ sym (ap (λ k. out_of_scope xs (between vs k outer (Some v))) e ∙ ap (λ t. out_of_scope xs (if t then [] else inner ++ v.0 ∷ [])) h))
