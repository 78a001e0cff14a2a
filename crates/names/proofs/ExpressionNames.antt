-- Parts of an expression that are judged one after another.
use Rattle.std.proofs.Common.{◌≡◌, ℕ, ◌+◌, ◌<◌, ◌≤◌, List, [], ◌∷◌, ◌++◌, length, map, take, get_or, sym, refl, ap, ◌∙◌, subst, if◌then◌else◌}
use Rattle.std.specs.Prelude.{IfOk, Result, Ok, Err}
use Rattle.std.proofs.lemmas.List.{take_more, take_all, map-append}
use Rattle.declarations.specs.declared.mistake.Mistake.{Mistake}
use Rattle.source.specs.declared.fault.Memory.{Memory}
use Rattle.source.specs.declared.place.Place.{Place}
use Rattle.tree.specs.Operators as levels
use Rattle.tree.specs.Operators.{Operators, below}
use Rattle.tree.specs.Expressions.{LevelTree, AtomTree, StepOf, Chain, Unary}
use Rattle.tree.specs.Factors.{step_sequence}
use Rattle.tree.specs.declared.expression.Prefix.{Prefix}
use Rattle.names.specs.Expressions.{InScope, type_of, place_of, signed_type, sign_asked}
use Rattle.declarations.specs.Mistakes.{Adds}
use Rattle.declarations.specs.Types.{is_unknown}
use Rattle.names.specs.Operands.{IsOperand, Judges, IsJoined, IsSigned}
use Rattle.names.specs.Shapes.{Shape, Joined, Joint, Signed, joint_of, with_signs, shape, joined, atom_shape}
use Rattle.declarations.specs.declared.value_type.ValueType.{ValueType}
use Rattle.declarations.specs.declared.value_type.ValueType.TheVariants as ty
use Rattle.names.specs.declared.operands.Operand.{Operand}
use Rattle.declarations.specs.declared.scope.Scope.{Scope}
use Rattle.names.specs.declared.variables.ScopeVariables.{ScopeVariables}
use Rattle.declarations.proofs.AddLemmas.{adds_then}

-- the operand that an expression is judged as
abbrev judged_as : InScope → Shape → Operand
judged_as s e = record { ty = type_of s e; place = place_of e }

is_judged_as : (s : InScope) (e : Shape) (o : Operand) → o.ty ≡ type_of s e → o.place ≡ place_of e → o ≡ judged_as s e
is_judged_as s e o ty-is place-is =
    let operand : ValueType → Place → Operand = λ k p. record { ty = k; place = p } in
    ap (λ k. operand k o.place) ty-is ∙ ap (operand (type_of s e)) place-is

-- two joined operands, given by their expressions
pub joined_shapes : (s : InScope) (joint : Joint) (l r : Shape) {more new : List Mistake} {left right o : Operand} → left.ty ≡ type_of s l → left.place ≡ place_of l → right.ty ≡ type_of s r → right.place ≡ place_of r → IsJoined joint left right more new o → IsJoined joint (judged_as s l) (judged_as s r) more new o
joined_shapes s joint l r {more = more} {new = new} {left = left} {right = right} {o = o} left-ty left-place right-ty right-place both =
    subst (λ a. IsJoined joint a (judged_as s r) more new o) (is_judged_as s l left left-ty left-place)
    (subst (λ b. IsJoined joint left b more new o) (is_judged_as s r right right-ty right-place) both)

judged_joined : (s : InScope) (joint : Joint) (l r : Shape) {old mid more new : List Mistake} {left right o : Operand} → IsOperand s l old mid left → IsOperand s r mid more right → IsJoined joint left right more new o → IsOperand s (Joined joint l r) old new o
judged_joined s joint l r first second both =
    let asked = joined_shapes s joint l r first.ty first.place second.ty second.place both in
    record {
      ty = asked.ty;
      place = asked.place;
      found = adds_then first.found (adds_then second.found asked.found);
    }

judged_signed : (s : InScope) (p : Prefix) (e : Shape) {old mid new : List Mistake} {inner o : Operand} → IsOperand s e old mid inner → IsSigned p.operator p.span.place inner mid new o → IsOperand s (Signed p.operator p.span.place e) old new o
judged_signed s p e {mid = mid} {new = new} {inner = inner} first sign =
    let unknown : ValueType → ValueType = λ k. if is_unknown k then ty.Unknown else signed_type p.operator in
    record {
      ty = sign.ty ∙ ap unknown first.ty;
      place = sign.at;
      found = adds_then first.found
          (subst (Adds mid new) (ap (λ k. sign_asked p.operator k inner.place) first.ty ∙ ap (sign_asked p.operator (type_of s e)) first.place) sign.found);
    }

-- one more part of a chain
joined_more : (l : Operators) (e : Shape) (ps : List (StepOf l)) (p : StepOf l) → joined e (step_sequence l (ps ++ p ∷ [])) ≡ Joined (joint_of l) (joined e (step_sequence l ps)) (shape p.1)
joined_more l e [] p = refl
joined_more l e (q ∷ ps) p = joined_more l (Joined (joint_of l) e (shape q.1)) ps p

-- an expression joined with the first i steps of a chain
abbrev pub chain_to : (l : Operators) → {X : Type 0} → (X → StepOf l) → Shape → List X → ℕ → Shape
chain_to l f e xs i = joined e (step_sequence l (map f (take i xs)))

chain_more : (l : Operators) {X : Type 0} (f : X → StepOf l) (e : Shape) (xs : List X) (i : ℕ) (x : X) → i < length xs → x ≡ get_or xs i x → chain_to l f e xs (i + 1) ≡ Joined (joint_of l) (chain_to l f e xs i) (shape (f x).1)
chain_more l f e xs i x lt is =
    ap (λ ys. joined e (step_sequence l (map f ys))) (take_more xs i x lt ∙ ap (λ y. take i xs ++ y ∷ []) (sym is))
    ∙ ap (λ ps. joined e (step_sequence l ps)) (map-append f (take i xs) (x ∷ []))
    ∙ joined_more l e (map f (take i xs)) (f x)

pub judges_more : (l : Operators) {X : Type 0} (f : X → StepOf l) (e : Shape) (xs : List X) (i : ℕ) (x : X) {scope : Scope} {variables : ScopeVariables} {old mid more new : List Mistake} {left right o : Operand}
    → i < length xs → x ≡ get_or xs i x → Judges scope variables (chain_to l f e xs i) old mid left → Judges scope variables (shape (f x).1) mid more right → IsJoined (joint_of l) left right more new o
    → Judges scope variables (chain_to l f e xs (i + 1)) old new o
judges_more l f e xs i x {scope = scope} {variables = variables} {old = old} {new = new} {o = o} lt is first second both =
    subst (λ c. Judges scope variables c old new o) (sym (chain_more l f e xs i x lt is))
    (record { all = λ p g is_scope is_frame. judged_joined _ (joint_of l) (chain_to l f e xs i) (shape (f x).1) (first.all p g is_scope is_frame) (second.all p g is_scope is_frame) both })

pub judges_all : (l : Operators) {X : Type 0} (f : X → StepOf l) (first : LevelTree (below l)) (xs ys : List X) (i : ℕ) (tree : LevelTree (levels.Joined l)) {scope : Scope} {variables : ScopeVariables} {old new : List Mistake} {o : Operand}
    → length xs ≤ i → xs ≡ ys → tree ≡ Chain l first (step_sequence l (map f ys)) → Judges scope variables (chain_to l f (shape first) xs i) old new o → Judges scope variables (shape tree) old new o
judges_all l f first xs ys i tree {scope = scope} {variables = variables} {old = old} {new = new} {o = o} le same seen h =
    subst (λ t. Judges scope variables (shape t) old new o) (sym seen)
    (subst (λ zs. Judges scope variables (joined (shape first) (step_sequence l (map f zs))) old new o) (take_all i xs le ∙ same) h)

-- the part after an operator
pub judges_step : (l : Operators) (p q : StepOf l) {scope : Scope} {variables : ScopeVariables} {old new : List Mistake} {o : Operand} → p ≡ q → Judges scope variables (shape q.1) old new o → Judges scope variables (shape p.1) old new o
judges_step l p q {scope = scope} {variables = variables} {old = old} {new = new} {o = o} seen h = subst (λ (r : StepOf l). Judges scope variables (shape r.1) old new o) (sym seen) h

-- an atom, with signs before it
pub judges_signed : (ps qs : List Prefix) (a : AtomTree) (tree : LevelTree levels.Single) (r : Result Operand Memory) (new : List Mistake) {scope : Scope} {variables : ScopeVariables} {old mid : List Mistake} {inner : Operand}
    → ps ≡ qs → tree ≡ Unary qs a → Judges scope variables (atom_shape a) old mid inner
    → IfOk r (λ o. (s : InScope) (e : Shape) (start : List Mistake) → IsOperand s e start mid inner → IsOperand s (with_signs ps e) start new o)
    → IfOk r (Judges scope variables (shape tree) old new)
judges_signed ps qs a tree (Err e) new same seen first all = tt
judges_signed ps qs a tree (Ok o) new {scope = scope} {variables = variables} {old = old} same seen first all =
    subst (λ t. Judges scope variables (shape t) old new o) (sym seen)
    (subst (λ rs. Judges scope variables (with_signs rs (atom_shape a)) old new o) same
    (record { all = λ p f is_scope is_frame. all _ (atom_shape a) old (first.all p f is_scope is_frame) }))

-- one more sign, from the last one forwards
pub judged_more : (s : InScope) (e : Shape) (ps : List Prefix) (p : Prefix) {old mid new : List Mistake} {inner o : Operand} → IsOperand s (with_signs ps e) old mid inner → IsSigned p.operator p.span.place inner mid new o → IsOperand s (with_signs (p ∷ ps) e) old new o
judged_more s e ps p = judged_signed s p (with_signs ps e)
