-- A sum alone, as an expression.
use Rattle.std.proofs.Common.{◌≡◌, Bool, true, false, List, ◌++◌, sym, refl, ap, ◌∙◌, subst}
use Rattle.std.proofs.lemmas.List.{append-nil}
use Rattle.std.specs.Prelude.{◌||◌}
use Rattle.tree.specs.Symbols.{Symbol, by_kind, kind_at}
use Rattle.tree.specs.Operators.{Operators, Or, And, Equal, Compare, Add, Joined, below}
use Rattle.tree.specs.Expressions.{LevelTree, level}
use Rattle.tree.specs.Factors.{lone, sum_alone}
use Rattle.syntax.specs.OperatorReads.{joins, behind_sum}
use Rattle.syntax.specs.Reading.{Takes}
use Rattle.syntax.specs.ExpressionReads.{level_at}
use Rattle.syntax.proofs.pieces.KindLemmas.{test_stops}
use Rattle.syntax.proofs.pieces.Pieces.{stops_both, stops_with}

lone_spelled : (l : Operators) (x : LevelTree (below l)) (s : List Symbol) → level x ≡ s → level (lone l x) ≡ s
lone_spelled l x s h = append-nil (level x) ∙ h

summed_spelled : (x : LevelTree (Joined Add)) → level (sum_alone x) ≡ level x
summed_spelled x =
    let relation = lone Compare x in
    let equality = lone Equal relation in
    lone_spelled Or (lone And equality) _ (lone_spelled And equality _ (lone_spelled Equal relation _ (lone_spelled Compare x _ refl)))

-- a sum as an expression continues as the sum alone does, or with an operator that binds less

summed_ends : (x : LevelTree (Joined Add)) (y : Symbol) → (level_at x y || by_kind behind_sum y) ≡ false → level_at (sum_alone x) y ≡ false
summed_ends x y h = ends (level_at x y) (by_kind (joins Compare) y) (by_kind (joins Equal) y) (by_kind (joins And) y) (by_kind (joins Or) y) h
  where
    ends : (s c e a o : Bool) → (s || (((c || e) || a) || o)) ≡ false → ((((s || c) || e) || a) || o) ≡ false
    ends true c e a o h = h
    ends false c e a o h = h

pub summed_is_read : (old new : List Symbol) (x : LevelTree (Joined Add)) (z : LevelTree (Joined Or)) → z ≡ sum_alone x → Takes level level_at old new x → behind_sum (kind_at new) ≡ false → Takes level level_at old new z
summed_is_read old new x z is read ends =
    let there = read.0 ∙ ap (λ s. s ++ new) (sym (summed_spelled x)) in
    let stops = stops_both (level_at x) (by_kind behind_sum) new read.1 (test_stops behind_sum new refl ends) in
    subst (Takes level level_at old new) (sym is) (there, stops_with (λ y. level_at x y || by_kind behind_sum y) (level_at (sum_alone x)) (summed_ends x) new stops)
