-- The levels of expressions: the symbols they continue with, and each level as a chain of parts.
use Rattle.std.proofs.Common.{◌≡◌, Bool, true, false, List, [], ◌∷◌, ◌++◌, Option, Some, sym, refl, ap, ◌∙◌}
use Rattle.std.specs.Prelude.{◌||◌, is_some}
use Rattle.std.specs.List.{flat_map}
use Rattle.std.proofs.lemmas.Bool.{true≢false}
use Rattle.source.specs.declared.kind.Kind.{Kind}
use Rattle.source.specs.declared.kind.Kind.TheVariants as kind
use Rattle.tree.specs.Symbols.{Symbol, by_kind, kind_at}
use Rattle.syntax.specs.Reading.{Stops}
use Rattle.tree.specs.Operators.{Operators, Or, And, Equal, Compare, Add, Multiply, Level, Joined, below, operator}
use Rattle.syntax.specs.OperatorReads.{equality_of, relation_of, joins, opens_rest, after_sum, after_relation, after_conjunction, after_equality, after_term}
use Rattle.tree.specs.Expressions.{LevelTree, StepTrees, AtomTree, TargetTree, Unary, Chain, Done, More, Number, True, False, Target, Parens, Variable, Field, Element, StepOf, level, steps, step}
use Rattle.syntax.specs.ExpressionReads.{level_on, level_at, steps_at, target_on, target_at, atom_at}
use Rattle.tree.specs.Factors.{step_sequence}
use Rattle.syntax.proofs.pieces.Pieces.{or_right, stops_with}
use Rattle.syntax.proofs.pieces.Chains.{Joins, chain, chain_at, last_of}
use Rattle.syntax.proofs.pieces.KindLemmas.{apart_kinds}
use Rattle.syntax.proofs.OperatorRules.{operator_piece, operator_starts}
use Rattle.lemmas.proofs.Bools.{or_left}

-- a symbol that continues one expression of a level is among those of the level

pub on_split : (l : Operators) (y : Symbol) → level_on (Joined l) y ≡ false → (level_on (below l) y || by_kind (joins l) y) ≡ false
on_split Or y h = h
on_split And y h = h
on_split Equal y h = h
on_split Compare y h = h
on_split Add y h = h
on_split Multiply y h = h

target_wide : (t : TargetTree) (y : Symbol) → target_on y ≡ false → target_at t y ≡ false
target_wide (Variable variable) y h = h
target_wide (Field variable field) y h = refl
target_wide (Element variable index) y h = refl

atom_wide : (a : AtomTree) (y : Symbol) → target_on y ≡ false → atom_at a y ≡ false
atom_wide (Number span) y h = refl
atom_wide (True span) y h = refl
atom_wide (False span) y h = refl
atom_wide (Target t) y h = target_wide t y h
atom_wide (Parens left inner) y h = refl

mutual
  pub level_wide : {l : Level} (x : LevelTree l) (y : Symbol) → level_on l y ≡ false → level_at x y ≡ false
  level_wide (Unary prefixes a) y h = atom_wide a y h
  level_wide (Chain l first others) y h =
      let split = on_split l y h in
      let part = or_left (level_on (below l) y) (by_kind (joins l) y) split in
      ap (λ b. b || by_kind (joins l) y) (steps_wide (level_at first) others y (level_wide first y part) part) ∙ or_right (level_on (below l) y) (by_kind (joins l) y) split

  steps_wide : {l : Operators} (before : Symbol → Bool) (xs : StepTrees l) (y : Symbol) → before y ≡ false → level_on (below l) y ≡ false → steps_at before xs y ≡ false
  steps_wide before (Done l) y h part = h
  steps_wide before (More l o x xs) y h part = steps_wide (level_at x) xs y (level_wide x y part) part

-- no part of a chain continues with an operator of the chain

equality_apart : (k : Option Kind) → is_some (equality_of k) ≡ true → after_relation k ≡ false
equality_apart (Some kind.EqualEqual) h = refl
equality_apart (Some kind.NotEqual) h = refl
equality_apart k h = absurd (true≢false (sym h))

relation_apart : (k : Option Kind) → is_some (relation_of k) ≡ true → after_sum k ≡ false
relation_apart (Some kind.Less) h = refl
relation_apart (Some kind.LessEqual) h = refl
relation_apart (Some kind.Greater) h = refl
relation_apart (Some kind.GreaterEqual) h = refl
relation_apart k h = absurd (true≢false (sym h))

sum_apart : (k : Option Kind) → joins Add k ≡ true → after_term k ≡ false
sum_apart (Some kind.Plus) h = refl
sum_apart (Some kind.Minus) h = refl
sum_apart k h = absurd (true≢false (sym h))

pub operator_apart : (l : Operators) (y : Symbol) → by_kind (joins l) y ≡ true → level_on (below l) y ≡ false
operator_apart Or y h = apart_kinds after_conjunction kind.OrOr refl y h
operator_apart And y h = apart_kinds after_equality kind.AndAnd refl y h
operator_apart Equal y h = equality_apart (kind_at (y ∷ [])) h
operator_apart Compare y h = relation_apart (kind_at (y ∷ [])) h
operator_apart Add y h = sum_apart (kind_at (y ∷ [])) h
operator_apart Multiply y h = apart_kinds opens_rest kind.Star refl y h

pub level_joins : (l : Operators) → Joins (level {l = below l}) (operator l) (level_on (below l)) level_at (by_kind (joins l))
level_joins l = record { operator = operator_piece l; begin = operator_starts l; apart = operator_apart l; wide = level_wide }

-- sequences as lists, and back

abbrev pub step_list : {l : Operators} → StepTrees l → List (StepOf l)
step_list (Done l) = []
step_list (More l o x xs) = (o, x) ∷ step_list xs

sequence_list : {l : Operators} (xs : StepTrees l) → step_sequence l (step_list xs) ≡ xs
sequence_list (Done l) = refl
sequence_list (More l o x xs) = ap (λ t. More l o x t) (sequence_list xs)

list_sequence : (l : Operators) (ps : List (StepOf l)) → step_list (step_sequence l ps) ≡ ps
list_sequence l [] = refl
list_sequence l (p ∷ ps) = ap (λ t. p ∷ t) (list_sequence l ps)

sequence_spelled : {l : Operators} (xs : StepTrees l) → flat_map (step l) (step_list xs) ≡ steps xs
sequence_spelled (Done l) = refl
sequence_spelled (More l o x xs) = ap (λ t. (operator l o ++ level x) ++ t) (sequence_spelled xs)

steps_last : {l : Operators} (first : LevelTree (below l)) (xs : StepTrees l) (y : Symbol) → steps_at (level_at first) xs y ≡ level_at (last_of first (step_list xs)) y
steps_last first (Done l) y = refl
steps_last first (More l o x xs) y = steps_last x xs y

-- a chain by its parts

abbrev pub chain_to : {l : Operators} → LevelTree (Joined l) → LevelTree (below l) × List (StepOf l)
chain_to (Chain l first others) = (first, step_list others)

abbrev pub chain_from : (l : Operators) → LevelTree (below l) × List (StepOf l) → LevelTree (Joined l)
chain_from l p = Chain l p.0 (step_sequence l p.1)

pub chain_back : (l : Operators) (x : LevelTree (Joined l)) → chain_from l (chain_to x) ≡ x
chain_back l (Chain _ first others) = ap (λ t. Chain l first t) (sequence_list others)

pub chain_there : (l : Operators) (p : LevelTree (below l) × List (StepOf l)) → chain_to (chain_from l p) ≡ p
chain_there l p = ap (λ t. (p.0, t)) (list_sequence l p.1)

pub chain_spelled : (l : Operators) (x : LevelTree (Joined l)) → chain level (operator l) (chain_to x) ≡ level x
chain_spelled l (Chain _ first others) = ap (λ t. level first ++ t) (sequence_spelled others)

pub chain_ends : (l : Operators) (x : LevelTree (Joined l)) (y : Symbol) → level_at x y ≡ chain_at level_at (by_kind (joins l)) (chain_to x) y
chain_ends l (Chain _ first others) y = ap (λ b. b || by_kind (joins l) y) (steps_last first others y)

pub chain_stops : (l : Operators) (x : LevelTree (Joined l)) (r : List Symbol) → Stops (level_at x) r → Stops (chain_at level_at (by_kind (joins l)) (chain_to x)) r
chain_stops l x = stops_with (level_at x) (chain_at level_at (by_kind (joins l)) (chain_to x)) (λ y h. sym (chain_ends l x y) ∙ h)

pub stops_chain : (l : Operators) (x : LevelTree (Joined l)) (r : List Symbol) → Stops (chain_at level_at (by_kind (joins l)) (chain_to x)) r → Stops (level_at x) r
stops_chain l x = stops_with (chain_at level_at (by_kind (joins l)) (chain_to x)) (level_at x) (λ y h. chain_ends l x y ∙ h)
