-- Variables in scope, from the last one outwards.
use Rattle.std.proofs.Common.{◌≡◌, ℕ, zero, suc, ◌+◌, ◌-◌, ◌<◌, ◌≤◌, Bool, true, false, List, [], ◌∷◌, ◌++◌, length, Option, None, Some, if◌then◌else◌, refl, sym, ap, ◌∙◌, arith}
use Rattle.program.specs.Methods.{MethodModel, VariableModel}
use Rattle.program.specs.Scopes.{outer_of}
use Rattle.program.specs.declared.number.VarId.{VarId}
use Rattle.program.specs.declared.statement.Mention.{Mention}
use Rattle.rules.specs.Checks.{first_kept, if_kept, kept_or}
use Rattle.rules.specs.Mentions.{is_kept}
use Rattle.rules.specs.Scopes.{between, is_this}
use Rattle.rows.specs.declared.row.Leaf.{Leaf}

kept_none : (a : Option ℕ) → kept_or a None ≡ a
kept_none None = refl
kept_none (Some v) = refl

kept_assoc : (a b c : Option ℕ) → kept_or (kept_or a b) c ≡ kept_or a (kept_or b c)
kept_assoc None b c = refl
kept_assoc (Some v) b c = refl

choice : (b : Bool) (v : ℕ) (rest : Option ℕ) → (if b then Some v else rest) ≡ kept_or (if b then Some v else None) rest
choice true v rest = refl
choice false v rest = refl

pub kept_append : (m : MethodModel) (row : List Leaf) (given : Option Mention) (xs : List ℕ) (v : ℕ) → first_kept m row given (xs ++ v ∷ []) ≡ kept_or (first_kept m row given xs) (if_kept m row given v)
kept_append m row given [] v = refl
kept_append m row given (x ∷ xs) v =
    choice (is_kept m row given x) x (first_kept m row given (xs ++ v ∷ []))
    ∙ ap (kept_or (if_kept m row given x)) (kept_append m row given xs v)
    ∙ sym (kept_assoc (if_kept m row given x) (first_kept m row given xs) (if_kept m row given v))
    ∙ ap (λ a. kept_or a (if_kept m row given v)) (sym (choice (is_kept m row given x) x (first_kept m row given xs)))

pub between_none : (variables : List VariableModel) (most : ℕ) (outer : Option VarId) → between variables most outer None ≡ []
between_none variables zero outer = refl
between_none variables (suc most) outer = refl

pub between_this : (variables : List VariableModel) (most : ℕ) (outer : Option VarId) (v : VarId) → is_this v outer ≡ true → between variables most outer (Some v) ≡ []
between_this variables zero outer v is = refl
between_this variables (suc most) outer v is = ap (λ (b : Bool). if b then [] else between variables most outer (outer_of variables v) ++ v.0 ∷ []) is

pub between_more : (variables : List VariableModel) (most : ℕ) (outer : Option VarId) (v : VarId) → is_this v outer ≡ false → between variables (suc most) outer (Some v) ≡ between variables most outer (outer_of variables v) ++ v.0 ∷ []
between_more variables most outer v is = ap (λ (b : Bool). if b then [] else between variables most outer (outer_of variables v) ++ v.0 ∷ []) is

-- the first kept variable is the first of those still to be looked at, or else the one already found
abbrev pub Looked : MethodModel → List Leaf → Option Mention → (outer last at : Option VarId) (done : ℕ) (found : Option ℕ) → Type 0
Looked m row given outer last at done found =
    first_kept m row given (between m.variables (length m.variables) outer last) ≡ kept_or (first_kept m row given (between m.variables (length m.variables - done) outer at)) found

pub looked_first : (m : MethodModel) (row : List Leaf) (given : Option Mention) (outer last : Option VarId) → Looked m row given outer last last 0 None
looked_first m row given outer last =
    let none : length m.variables - 0 ≡ length m.variables = omega (arith) in
    sym (kept_none (first_kept m row given (between m.variables (length m.variables) outer last))) ∙ ap (λ n. kept_or (first_kept m row given (between m.variables n outer last)) None) (sym none)

pub looked_all : (m : MethodModel) (row : List Leaf) (given : Option Mention) (outer last at : Option VarId) (done : ℕ) (found : Option ℕ) → length m.variables ≤ done → Looked m row given outer last at done found → found ≡ first_kept m row given (between m.variables (length m.variables) outer last)
looked_all m row given outer last at done found le h =
    let none : length m.variables - done ≡ 0 = omega (arith, le) in
    sym (h ∙ ap (λ n. kept_or (first_kept m row given (between m.variables n outer at)) found) none)

pub looked_none : (m : MethodModel) (row : List Leaf) (given : Option Mention) (outer last at : Option VarId) (done : ℕ) (found : Option ℕ) → at ≡ None → Looked m row given outer last at done found → found ≡ first_kept m row given (between m.variables (length m.variables) outer last)
looked_none m row given outer last at done found none h =
    sym (h ∙ ap (λ a. kept_or (first_kept m row given (between m.variables (length m.variables - done) outer a)) found) none
    ∙ ap (λ xs. kept_or (first_kept m row given xs) found) (between_none m.variables (length m.variables - done) outer))

pub looked_this : (m : MethodModel) (row : List Leaf) (given : Option Mention) (outer last at : Option VarId) (v : VarId) (done : ℕ) (found : Option ℕ) → at ≡ Some v → is_this v outer ≡ true → Looked m row given outer last at done found → found ≡ first_kept m row given (between m.variables (length m.variables) outer last)
looked_this m row given outer last at v done found some is h =
    sym (h ∙ ap (λ a. kept_or (first_kept m row given (between m.variables (length m.variables - done) outer a)) found) some
    ∙ ap (λ xs. kept_or (first_kept m row given xs) found) (between_this m.variables (length m.variables - done) outer v is))

pub looked_more : (m : MethodModel) (row : List Leaf) (given : Option Mention) (outer last at : Option VarId) (v : VarId) (done : ℕ) (found more : Option ℕ) → done < length m.variables → at ≡ Some v → is_this v outer ≡ false → more ≡ kept_or (if_kept m row given v.0) found → Looked m row given outer last at done found → Looked m row given outer last (outer_of m.variables v) (done + 1) more
looked_more m row given outer last at v done found more lt some is new h =
    let left = length m.variables - (done + 1) in
    let one : length m.variables - done ≡ suc left = omega (arith, lt) in
    let rest = between m.variables left outer (outer_of m.variables v) in
    h
    ∙ ap (λ a. kept_or (first_kept m row given (between m.variables (length m.variables - done) outer a)) found) some
    ∙ ap (λ n. kept_or (first_kept m row given (between m.variables n outer (Some v))) found) one
    ∙ ap (λ xs. kept_or (first_kept m row given xs) found) (between_more m.variables left outer v is)
    ∙ ap (λ a. kept_or a found) (kept_append m row given rest v.0)
    ∙ kept_assoc (first_kept m row given rest) (if_kept m row given v.0) found
    ∙ ap (kept_or (first_kept m row given rest)) (sym new)
