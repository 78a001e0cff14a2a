-- A sequence of factors that is judged from the left is judged as the sum of terms that its tree is.
use Rattle.std.proofs.Common.{◌≡◌, ℕ, ◌+◌, ◌<◌, ◌≤◌, List, [], ◌∷◌, ◌++◌, length, map, take, get_or, sym, refl, ap, ◌∙◌, subst, append_assoc}
use Rattle.std.specs.Prelude.{Option, Some, None, IfOk, Result, Ok, Err}
use Rattle.std.proofs.lemmas.List.{take_more, take_all, map-append}
use Rattle.source.specs.declared.fault.Memory.{Memory}
use Rattle.declarations.specs.declared.mistake.Mistake.{Mistake}
use Rattle.tree.specs.Operators.{Add, Multiply, Single}
use Rattle.tree.specs.Operators as levels
use Rattle.tree.specs.Expressions.{LevelTree, Chain}
use Rattle.tree.specs.Factors.{FactorTree, before_sum, sum_of_factors}
use Rattle.tree.specs.declared.expression.FactorOperator.{FactorOperator}
use Rattle.tree.specs.declared.expression.FactorOperator.TheVariants as operators
use Rattle.tree.specs.declared.expression.SumOperator.{SumOperator}
use Rattle.names.specs.Expressions.{InScope, expression_mistakes}
use Rattle.declarations.specs.Mistakes.{Adds}
use Rattle.names.specs.Operands.{IsOperand, Judges, IsJoined}
use Rattle.names.specs.Shapes.{Shape, Joined, Sum, shape, joined}
use Rattle.names.specs.Terms.{TermShapes, IsJudgedTerms, JudgesTerms, before_mistakes, behind, first_term, whole, with_factor, with_factors}
use Rattle.names.specs.declared.operands.Operand.{Operand}
use Rattle.declarations.specs.declared.scope.Scope.{Scope}
use Rattle.names.specs.declared.terms.Terms.{Terms}
use Rattle.names.specs.declared.variables.ScopeVariables.{ScopeVariables}
use Rattle.declarations.proofs.AddLemmas.{adds_then}
use Rattle.names.proofs.ExpressionNames.{joined_shapes}

-- a term with `f` applied to its first factor
abbrev term_from : (Shape → Shape) → LevelTree (levels.Joined Multiply) → Shape
term_from f (Chain _ u vs) = joined (f (shape u)) vs

-- a sum with `f` applied to its first factor, added to `before` if that is given
abbrev sum_from : Option Shape → (Shape → Shape) → LevelTree (levels.Joined Add) → Shape
sum_from before f (Chain _ first others) = joined (behind before (term_from f first)) others

from_times : (before : Option Shape) (f : Shape → Shape) (u : LevelTree Single) (g : LevelTree (levels.Joined Add)) → sum_from before (Joined Sum (f (shape u))) g ≡ sum_from before f (before_sum u operators.Times g)
from_times before f u (Chain _ (Chain _ v vs) others) = refl

from_plus : (before : Option Shape) (f : Shape → Shape) (u : LevelTree Single) (o : SumOperator) (g : LevelTree (levels.Joined Add)) → sum_from (Some (behind before (f (shape u)))) (λ e. e) g ≡ sum_from before f (before_sum u (operators.Sum o) g)
from_plus before f u o (Chain _ (Chain _ v vs) others) = refl

from_none : (g : LevelTree (levels.Joined Add)) → sum_from None (λ e. e) g ≡ shape g
from_none (Chain _ (Chain _ v vs) others) = refl

gathered_from : (before : Option Shape) (f : Shape → Shape) (u : LevelTree Single) (fs : List FactorTree) → whole (with_factors (record { before = before; last = f (shape u) }) fs) ≡ sum_from before f (sum_of_factors u fs)
gathered_from before f u [] = refl
gathered_from before f u ((operators.Times, v) ∷ fs) = gathered_from before (Joined Sum (f (shape u))) v fs ∙ from_times before f u (sum_of_factors v fs)
gathered_from before f u ((operators.Sum o, v) ∷ fs) = gathered_from (Some (behind before (f (shape u)))) (λ e. e) v fs ∙ from_plus before f u o (sum_of_factors v fs)

gathered_whole : (u : LevelTree Single) (fs : List FactorTree) → whole (with_factors (first_term (shape u)) fs) ≡ shape (sum_of_factors u fs)
gathered_whole u fs = gathered_from None (λ e. e) u fs ∙ from_none (sum_of_factors u fs)

-- the first term
pub judges_first : (e : Shape) {scope : Scope} {variables : ScopeVariables} {old new : List Mistake} {o : Operand} {terms : Terms} → ((s : InScope) (e : Shape) (old new : List Mistake) → IsOperand s e old new o → IsJudgedTerms s (first_term e) old new terms)
    → Judges scope variables e old new o → JudgesTerms scope variables (first_term e) old new terms
judges_first e made first = record { all = λ p f is_scope is_frame. made _ e _ _ (first.all p f is_scope is_frame) }

-- one more factor of the last term
judged_times : (s : InScope) (t : TermShapes) (e : Shape) {old mid more new : List Mistake} {terms : Terms} {right o : Operand} → IsJudgedTerms s t old mid terms → IsOperand s e mid more right → IsJoined Sum terms.last right more new o
    → IsJudgedTerms s (record { before = t.before; last = Joined Sum t.last e }) old new (record { before = terms.before; last = o })
judged_times s t e {old = old} {new = new} first second both =
    let asked = joined_shapes s Sum t.last e first.ty first.place second.ty second.place both in
    record {
      before = first.before;
      ty = asked.ty;
      place = asked.place;
      found = subst (Adds old new) (append_assoc (before_mistakes s t.before) (expression_mistakes s t.last) _) (adds_then first.found (adds_then second.found asked.found));
    }

pub judges_times : (t : TermShapes) (f : FactorTree) (operator : FactorOperator) (tree : LevelTree Single) {scope : Scope} {variables : ScopeVariables} {old mid more new : List Mistake} {terms : Terms} {right o : Operand}
    → f ≡ (operator, tree) → operator ≡ operators.Times → Judges scope variables (shape tree) mid more right → IsJoined Sum terms.last right more new o → JudgesTerms scope variables t old mid terms
    → JudgesTerms scope variables (with_factor t f) old new (record { before = terms.before; last = o })
judges_times t f operator tree {scope = scope} {variables = variables} {old = old} {new = new} {terms = terms} {o = o} seen is second both first =
    subst (λ (g : FactorTree). JudgesTerms scope variables (with_factor t g) old new (record { before = terms.before; last = o })) (sym (seen ∙ ap (λ (k : FactorOperator). (k, tree)) is))
    (record { all = λ p g is_scope is_frame. judged_times _ t (shape tree) (first.all p g is_scope is_frame) (second.all p g is_scope is_frame) both })

-- the first factor of one more term
pub judges_next : (t : TermShapes) (f : FactorTree) (operator : FactorOperator) (sign : SumOperator) (tree : LevelTree Single) {scope : Scope} {variables : ScopeVariables} {old mid more new : List Mistake} {terms : Terms} {before last : Operand}
    → f ≡ (operator, tree) → operator ≡ operators.Sum sign
    → ((s : InScope) (t : TermShapes) (start : List Mistake) → IsJudgedTerms s t start mid terms → IsOperand s (whole t) start more before) → Judges scope variables (shape tree) more new last → JudgesTerms scope variables t old mid terms
    → JudgesTerms scope variables (with_factor t f) old new (record { before = Some before; last = last })
judges_next t f operator sign tree {scope = scope} {variables = variables} {old = old} {new = new} {before = before} {last = last} seen is joined second first =
    subst (λ (g : FactorTree). JudgesTerms scope variables (with_factor t g) old new (record { before = Some before; last = last })) (sym (seen ∙ ap (λ (k : FactorOperator). (k, tree)) is))
    (record {
      all = λ p g is_scope is_frame.
          let all = joined _ t old (first.all p g is_scope is_frame) in
          let one = second.all p g is_scope is_frame in
          record { before = (all.ty, all.place); ty = one.ty; place = one.place; found = adds_then all.found one.found };
    })

-- the terms after the first i factors of a sequence
abbrev pub factors_to : {X : Type 0} → (X → FactorTree) → TermShapes → List X → ℕ → TermShapes
factors_to f t xs i = with_factors t (map f (take i xs))

with_more : (t : TermShapes) (fs : List FactorTree) (f : FactorTree) → with_factors t (fs ++ f ∷ []) ≡ with_factor (with_factors t fs) f
with_more t [] f = refl
with_more t (g ∷ fs) f = with_more (with_factor t g) fs f

pub judges_factor : {X : Type 0} (f : X → FactorTree) (t : TermShapes) (xs : List X) (i : ℕ) (x : X) {scope : Scope} {variables : ScopeVariables} {old new : List Mistake} {terms : Terms}
    → i < length xs → x ≡ get_or xs i x → JudgesTerms scope variables (with_factor (factors_to f t xs i) (f x)) old new terms → JudgesTerms scope variables (factors_to f t xs (i + 1)) old new terms
judges_factor f t xs i x {scope = scope} {variables = variables} {old = old} {new = new} {terms = terms} lt is =
    subst (λ u. JudgesTerms scope variables u old new terms) (sym (
    ap (λ ys. with_factors t (map f ys)) (take_more xs i x lt ∙ ap (λ y. take i xs ++ y ∷ []) (sym is))
    ∙ ap (with_factors t) (map-append f (take i xs) (x ∷ []))
    ∙ with_more t (map f (take i xs)) (f x)))

-- all terms, joined
pub judges_factors : {X : Type 0} (f : X → FactorTree) (u : LevelTree Single) (second : FactorTree) (xs ys : List X) (i : ℕ) (tree : LevelTree (levels.Joined Add)) (r : Result Operand Memory) (new : List Mistake)
    {scope : Scope} {variables : ScopeVariables} {old mid : List Mistake} {terms : Terms}
    → length xs ≤ i → xs ≡ ys → tree ≡ sum_of_factors u (second ∷ map f ys) → JudgesTerms scope variables (factors_to f (with_factor (first_term (shape u)) second) xs i) old mid terms
    → IfOk r (λ o. (s : InScope) (t : TermShapes) (start : List Mistake) → IsJudgedTerms s t start mid terms → IsOperand s (whole t) start new o)
    → IfOk r (Judges scope variables (shape tree) old new)
judges_factors f u second xs ys i tree (Err e) new le same seen h all = tt
judges_factors f u second xs ys i tree (Ok o) new {scope = scope} {variables = variables} {old = old} le same seen h all =
    let is : whole (factors_to f (with_factor (first_term (shape u)) second) xs i) ≡ shape tree =
    ap (λ zs. whole (with_factors (first_term (shape u)) (second ∷ map f zs))) (take_all i xs le ∙ same) ∙ gathered_whole u (second ∷ map f ys) ∙ ap (λ (t : LevelTree (levels.Joined Add)). shape t) (sym seen) in
    subst (λ e. Judges scope variables e old new o) is (record { all = λ p g is_scope is_frame. all _ _ old (h.all p g is_scope is_frame) })
