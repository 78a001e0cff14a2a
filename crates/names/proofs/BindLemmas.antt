-- The names that a case binds, one after another.
use Rattle.std.proofs.Common.{◌≡◌, ℕ, zero, suc, ◌+◌, ◌<◌, List, [], ◌∷◌, length, drop, get_or, Option, Some, None, sym, ap, ◌∙◌, subst, arith, add-one}
use Rattle.std.specs.Prelude.{slice_get}
use Rattle.declarations.specs.declared.mistake.Mistake.{Mistake}
use Rattle.tree.specs.declared.statement.Bind.{Bind}
use Rattle.tree.specs.declared.contract.MessageParameter.{MessageParameter}
use Rattle.names.specs.Cases.{bind_turn, binds_turn}
use Rattle.declarations.specs.Program.{ProgramText}
use Rattle.names.specs.Variables.{NameFrame, CheckedPiece, follow}
use Rattle.names.specs.declared.variables.ScopeVariables.{ScopeVariables}
use Rattle.names.proofs.TurnLemmas.{Ongoing}
use Rattle.lemmas.proofs.Lists.{none_left}

-- a name, and then the names after it
abbrev bound_next : ProgramText → Option MessageParameter → Bind → List MessageParameter → List Bind → NameFrame → CheckedPiece
bound_next p param b params binds f = follow (bind_turn p param b.name b.ty f) (binds_turn p params binds)

next_bound : (p : ProgramText) (params : List MessageParameter) (binds : List Bind) (i : ℕ) (d b : Bind) → i < length binds → b ≡ get_or binds i d → binds_turn p (drop i params) (drop i binds) ≡ bound_next p (slice_get params i) b (drop (suc i) params) (drop (suc i) binds)
next_bound p params [] i d b lt is = absurd (omega (arith, lt))
next_bound p [] (c ∷ binds) zero d b lt is = ap (λ k. bound_next p None k [] binds) (sym is)
next_bound p (x ∷ params) (c ∷ binds) zero d b lt is = ap (λ k. bound_next p (Some x) k params binds) (sym is)
next_bound p [] (c ∷ binds) (suc i) d b lt is = ap (λ ps. binds_turn p ps (drop i binds)) (sym (none_left i)) ∙ next_bound p [] binds i d b (omega (arith, lt)) is
next_bound p (x ∷ params) (c ∷ binds) (suc i) d b lt is = next_bound p params binds i d b (omega (arith, lt)) is

pub bound_less : {text : List ℕ} {old mid : List Mistake} {v : ScopeVariables} {whole : CheckedPiece} (p : ProgramText) (params : List MessageParameter) (binds : List Bind) (i : ℕ) (d b : Bind) (param : Option MessageParameter) → i < length binds → b ≡ get_or binds i d → param ≡ slice_get params i
    → Ongoing text old mid v whole (binds_turn p (drop i params) (drop i binds))
    → Ongoing text old mid v whole (λ f. follow (bind_turn p param b.name b.ty f) (binds_turn p (drop (i + 1) params) (drop (i + 1) binds)))
bound_less {text = text} {old = old} {mid = mid} {v = v} {whole = whole} p params binds i d b param lt is at o =
    subst (λ n. Ongoing text old mid v whole (bound_next p param b (drop n params) (drop n binds))) (sym (add-one i))
    (subst (λ k. Ongoing text old mid v whole (bound_next p k b (drop (suc i) params) (drop (suc i) binds))) (sym at)
    (subst (Ongoing text old mid v whole) (next_bound p params binds i d b lt is) o))
