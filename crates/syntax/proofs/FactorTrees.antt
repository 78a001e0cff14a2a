-- A sum as a sequence of factors: its spelling, the symbols it continues with, and the sequence of each sum.
use Rattle.std.proofs.Common.{◌≡◌, List, [], ◌∷◌, ◌++◌, sym, refl, ap, ◌∙◌, append_assoc}
use Rattle.std.proofs.lemmas.List.{append-nil}
use Rattle.std.proofs.Math.Bool.{or_assoc}
use Rattle.std.specs.List.{flat_map}
use Rattle.tree.specs.Symbols.{Symbol, by_kind}
use Rattle.tree.specs.Operators.{Add, Multiply, Single, Joined, sum_operator}
use Rattle.tree.specs.Expressions.{LevelTree, StepTrees, Chain, Done, More, level, steps}
use Rattle.tree.specs.Factors.{FactorTree, factor_operator, factor, before_sum, sum_of_factors}
use Rattle.tree.specs.declared.expression.FactorOperator.{FactorOperator}
use Rattle.tree.specs.declared.expression.FactorOperator.TheVariants as factors
use Rattle.syntax.specs.OperatorReads.{joins, joins_factors}
use Rattle.syntax.specs.ExpressionReads.{level_at}
use Rattle.syntax.proofs.pieces.Chains.{chain, chain_at}

-- the spelling

before_spelled : (u : LevelTree Single) (o : FactorOperator) (s : LevelTree (Joined Add)) → level (before_sum u o s) ≡ level u ++ (factor_operator o ++ level s)
before_spelled u factors.Times (Chain _ (Chain _ first xs) ys) = append_assoc (level u) (factor_operator factors.Times ++ (level first ++ steps xs)) (steps ys)
before_spelled u (factors.Sum o) (Chain _ first ys) = ap (λ t. t ++ ((sum_operator o ++ level first) ++ steps ys)) (append-nil (level u)) ∙ ap (λ t. level u ++ t) (append_assoc (sum_operator o) (level first) (steps ys))

pub gathered_spelled : (u : LevelTree Single) (fs : List FactorTree) → level (sum_of_factors u fs) ≡ chain level factor_operator (u, fs)
gathered_spelled u [] = append-nil (level u ++ [])
gathered_spelled u (f ∷ fs) =
    before_spelled u f.0 (sum_of_factors f.1 fs)
    ∙ ap (λ t. level u ++ (factor_operator f.0 ++ t)) (gathered_spelled f.1 fs)
    ∙ ap (λ t. level u ++ t) (sym (append_assoc (factor_operator f.0) (level f.1) (flat_map factor fs)))

-- the symbols it continues with

before_ends : (u : LevelTree Single) (o : FactorOperator) (s : LevelTree (Joined Add)) (y : Symbol) → level_at (before_sum u o s) y ≡ level_at s y
before_ends u factors.Times (Chain _ (Chain _ first xs) (Done _)) y = refl
before_ends u factors.Times (Chain _ (Chain _ first xs) (More _ o x ys)) y = refl
before_ends u (factors.Sum o) (Chain _ first ys) y = refl

pub gathered_ends : (u : LevelTree Single) (fs : List FactorTree) (y : Symbol) → level_at (sum_of_factors u fs) y ≡ chain_at level_at (by_kind joins_factors) (u, fs) y
gathered_ends u [] y = or_assoc (level_at u y) (by_kind (joins Multiply) y) (by_kind (joins Add) y)
gathered_ends u (f ∷ fs) y = before_ends u f.0 (sum_of_factors f.1 fs) y ∙ gathered_ends f.1 fs y

-- the factors of a sum

abbrev factors_of_term : StepTrees Multiply → List FactorTree → List FactorTree
factors_of_term (Done _) fs = fs
factors_of_term (More _ o x xs) fs = (factors.Times, x) ∷ factors_of_term xs fs

abbrev factors_of_terms : StepTrees Add → List FactorTree
factors_of_terms (Done _) = []
factors_of_terms (More _ o (Chain _ u xs) ys) = (factors.Sum o, u) ∷ factors_of_term xs (factors_of_terms ys)

abbrev pub spread : LevelTree (Joined Add) → LevelTree Single × List FactorTree
spread (Chain _ (Chain _ u xs) ys) = (u, factors_of_term xs (factors_of_terms ys))

spread_sequence : (u : LevelTree Single) (xs : StepTrees Multiply) (ys : StepTrees Add) → sum_of_factors u (factors_of_term xs (factors_of_terms ys)) ≡ Chain Add (Chain Multiply u xs) ys
spread_sequence u (More _ o v xs) ys = ap (before_sum u factors.Times) (spread_sequence v xs ys)
spread_sequence u (Done _) (Done _) = refl
spread_sequence u (Done _) (More _ o (Chain _ v xs) ys) = ap (before_sum u (factors.Sum o)) (spread_sequence v xs ys)

pub spread_back : (s : LevelTree (Joined Add)) → sum_of_factors (spread s).0 (spread s).1 ≡ s
spread_back (Chain _ (Chain _ u xs) ys) = spread_sequence u xs ys

pub spread_spelled : (s : LevelTree (Joined Add)) → chain level factor_operator (spread s) ≡ level s
spread_spelled s = sym (gathered_spelled (spread s).0 (spread s).1) ∙ ap level (spread_back s)
