-- Variables that are plainly in scope.
use Rattle.std.proofs.Common.{◌≡◌, ◌<◌, ◌≤◌, ℕ, zero, suc, Bool, true, false, List, Option, None, Some, IfSome, length, if◌then◌else◌, refl, sym, ap, ◌∙◌, arith, ⊎_elim}
use Rattle.std.proofs.lemmas.Bool.{cases_lt, ne_eqb}
use Rattle.program.specs.Methods.{MethodModel}
use Rattle.program.specs.Scopes.{outer_of}
use Rattle.program.specs.declared.number.VarId.{VarId}
use Rattle.program.specs.declared.statement.Mention.{Mention}
use Rattle.rules.specs.Checks.{IsFirstKept, IsPlain, LeadsTo, first_kept, if_kept, kept_or}
use Rattle.rules.specs.Scopes.{between, declared_between, is_this}
use Rattle.rows.specs.declared.row.Leaf.{Leaf}
use Rattle.rules.proofs.ScopeLemmas.{between_more, between_none, between_this, kept_append}

-- a variable after the outer one is another
require_another : (v : VarId) (outer : Option VarId) (first : ℕ) → first ≤ v.0 → IfSome outer (λ o. o.0 < first) → is_this v outer ≡ false
require_another v None first le out = refl
require_another v (Some o) first le out = ne_eqb v.0 o.0 (λ e. omega (arith, le, out, e))

module _ (m : MethodModel) (row : List Leaf) (given : Option Mention) (outer : Option VarId) (first : ℕ) (is : IsFirstKept m row given first) where
  -- the first kept variable in scope, if `at` is the last one in scope
  abbrev kept_from : ℕ → Option VarId → Option ℕ
  kept_from most at = first_kept m row given (between m.variables most outer at)

  -- each variable up to this one leads to the first
  abbrev All : ℕ → Type 0
  All last = (v : ℕ) → v ≤ last → LeadsTo first v (outer_of m.variables (record { 0 = v }))

  one_more : (most : ℕ) (v : VarId) (around : Option ℕ) → is_this v outer ≡ false → kept_from most (outer_of m.variables v) ≡ around
      → kept_from (suc most) (Some v) ≡ kept_or around (if_kept m row given v.0)
  one_more most v around is rest =
      ap (first_kept m row given) (between_more m.variables most outer v is)
      ∙ kept_append m row given (between m.variables most outer (outer_of m.variables v)) v.0
      ∙ ap (λ a. kept_or a (if_kept m row given v.0)) rest

  -- the first kept of the variables around one, by the next one outwards
  around : (most : ℕ) (v : VarId) (found : Option ℕ) → ((u : VarId) → LeadsTo first v.0 (Some u) → kept_from most (Some u) ≡ found)
      → (LeadsTo first v.0 None → None ≡ found) → (o : Option VarId) → LeadsTo first v.0 o → kept_from most o ≡ found
  around most v found one none None leads = ap (first_kept m row given) (between_none m.variables most outer) ∙ none leads
  around most v found one none (Some u) leads = one u leads

  -- no variable before the first is kept
  none_before : (most : ℕ) (v : VarId) → v.0 < first → All v.0 → kept_from most (Some v) ≡ None
  none_before zero v lt all = refl
  none_before (suc most) v lt all =
      by (around most v None (λ u leads. none_before most u (omega (arith, lt, leads.0)) (λ w le. all w (omega (arith, le, leads.0)))) (λ leads. refl)
      (outer_of m.variables v) (all v.0 (omega arith))) (is_this v outer) refl
    where
      by : kept_from most (outer_of m.variables v) ≡ None → (b : Bool) → is_this v outer ≡ b → kept_from (suc most) (Some v) ≡ None
      by rest true same = ap (first_kept m row given) (between_this m.variables (suc most) outer v same)
      by rest false other = one_more most v None other rest ∙ ap (λ (b : Bool). if b then Some v.0 else None) (is.none v.0 lt)

  -- so the first is the first kept if it is in scope
  first_from : (most : ℕ) (v : VarId) → IfSome outer (λ o. o.0 < first) → first ≤ v.0 → v.0 < most → All v.0 → kept_from most (Some v) ≡ Some first
  first_from zero v out le lt all = absurd (omega (arith, lt))
  first_from (suc most) v out le lt all = ⊎_elim
      (λ more. one_more most v (Some first) (require_another v outer first le out)
      (around most v (Some first) (λ u leads. first_from most u out (leads.1 more) (omega (arith, lt, leads.0)) (λ w low. all w (omega (arith, low, leads.0))))
      (λ leads. absurd (omega (arith, more, leads))) (outer_of m.variables v) (all v.0 (omega arith))))
      (λ same. one_more most v None (require_another v outer first le out)
      (around most v None (λ u leads. none_before most u (omega (arith, same, leads.0)) (λ w low. all w (omega (arith, low, leads.0)))) (λ leads. refl)
      (outer_of m.variables v) (all v.0 (omega arith)))
      ∙ (let e : v.0 ≡ first = omega (arith, le, same) in ap (if_kept m row given) e ∙ ap (λ (b : Bool). if b then Some first else None) is.kept))
      (cases_lt first v.0)

  pub first_plain : (last : Option VarId) → IsPlain m.variables first outer last → Some first ≡ first_kept m row given (declared_between m outer last)
  first_plain None plain = absurd plain
  first_plain (Some v) plain = sym (first_from (length m.variables) v plain.0 plain.1.0 plain.1.1.there plain.1.1.each)
