-- Expressions that are only an atom.
use Rattle.std.proofs.Common.{◌≡◌, ◌==◌, ℕ, true, false, List, [], ◌∷◌, length, map, sym, refl, ap, ◌∙◌, arith}
use Rattle.std.specs.Prelude.{Option, None}
use Rattle.lemmas.proofs.Lists.{some_of, none_of}
use Rattle.tree.specs.Operators as levels
use Rattle.tree.specs.Operators.{Operators, Add, Single, below}
use Rattle.tree.specs.Expressions.{LevelTree, AtomTree, StepOf, Chain, Done, More}
use Rattle.tree.specs.Factors.{FactorTree, before_sum, sum_of_factors, step_sequence}
use Rattle.tree.specs.declared.expression.FactorOperator.{FactorOperator}
use Rattle.tree.specs.declared.expression.FactorOperator.TheVariants as operators
use Rattle.tree.specs.Alone.{lone_atom}

-- with operators after its first part, it is more
pub chain_is_more : (l : Operators) {X : Type 0} (f : X → StepOf l) (first : LevelTree (below l)) (xs : List X) (n : ℕ) (tree : LevelTree (levels.Joined l)) → tree ≡ Chain l first (step_sequence l (map f xs)) → n ≡ length xs → (n == 0) ≡ false → None ≡ lone_atom tree
chain_is_more l f first [] n tree seen is h = let lt = some_of n 0 is h in absurd (omega (arith, lt))
chain_is_more l f first (x ∷ xs) n tree seen is h = sym (ap (λ (t : LevelTree (levels.Joined l)). lone_atom t) seen)

-- without operators, it is its first part
pub chain_is_first : (l : Operators) {X : Type 0} (f : X → StepOf l) (first : LevelTree (below l)) (xs : List X) (n : ℕ) (tree : LevelTree (levels.Joined l)) {r : Option AtomTree} → tree ≡ Chain l first (step_sequence l (map f xs)) → n ≡ length xs → (n == 0) ≡ true → r ≡ lone_atom first → r ≡ lone_atom tree
chain_is_first l f first [] n tree seen is h same = same ∙ sym (ap (λ (t : LevelTree (levels.Joined l)). lone_atom t) seen)
chain_is_first l f first (x ∷ xs) n tree seen is h same = let none = none_of n (length (x ∷ xs)) is h in absurd (omega (arith, none))

before_is_more : (u : LevelTree Single) (o : FactorOperator) (s : LevelTree (levels.Joined Add)) → None ≡ lone_atom (before_sum u o s)
before_is_more u operators.Times (Chain _ (Chain _ first others) (Done _)) = refl
before_is_more u operators.Times (Chain _ (Chain _ first others) (More _ o x xs)) = refl
before_is_more u (operators.Sum o) (Chain _ first others) = refl

-- a sequence of factors is more than an atom
pub sequence_is_more : (u : LevelTree Single) (f : FactorTree) (fs : List FactorTree) → None ≡ lone_atom (sum_of_factors u (f ∷ fs))
sequence_is_more u f fs = before_is_more u f.0 (sum_of_factors f.1 fs)
