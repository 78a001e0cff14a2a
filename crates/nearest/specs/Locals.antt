-- The names that a method declares before a place, in the blocks around the place.
use Rattle.std.specs.Prelude.{Bool, ◌&&◌, ◌||◌, ◌==◌, ltb, List, [], ◌∷◌, ◌++◌, map, filter, if◌then◌else◌}
use Rattle.source.specs.declared.place.Place.{Place}
use Rattle.source.specs.declared.token.Span.{Span}
use Rattle.tree.specs.StatementTrees as trees
use Rattle.tree.specs.StatementTrees.{StatementTree, StatementTrees, BlockTree, TestTree, OtherTrees, CaseTree, CaseTrees, behind_case}
use Rattle.tree.specs.Trees.{MethodTree}
use Rattle.tree.specs.declared.statement.Bind.{Bind}

-- whether the first of two places comes before the second
abbrev pub is_before : Place → Place → Bool
is_before p q = ltb p.line q.line || ((p.line == q.line) && ltb p.col q.col)

-- those of the names that are before a place
abbrev pub those_before : Place → List Span → List Span
those_before q names = filter (λ name. is_before name.place q) names

-- the names that a case binds, with a type before them or without
abbrev pub bound_names : List Bind → List Span
bound_names binds = map (λ b. b.name) binds

abbrev mutual
  -- what a block declares, if the place is before its closing brace
  pub block_names : Place → BlockTree → List Span
  block_names q (trees.Braces statements close) = if is_before q close.place then statements_names q statements else []

  pub statements_names : Place → StatementTrees → List Span
  statements_names q trees.NoStatement = []
  statements_names q (trees.MoreStatements x xs) = statement_names q x ++ statements_names q xs

  pub statement_names : Place → StatementTree → List Span
  statement_names q (trees.Block b) = block_names q b
  statement_names q (trees.Plain (trees.Declare d)) = those_before q (d.name ∷ [])
  statement_names q (trees.If first others) = test_names q first ++ others_names q others
  statement_names q (trees.While test) = test_names q test
  statement_names q (trees.Switch word first cases close) =
      case_names q (behind_case cases close.place) first ++ cases_names q close.place cases
  statement_names q _ = []

  pub test_names : Place → TestTree → List Span
  test_names q (trees.Test word left test body) = block_names q body

  pub others_names : Place → OtherTrees → List Span
  others_names q trees.NoOther = []
  others_names q (trees.Else b) = block_names q b
  others_names q (trees.ElseIf t others) = test_names q t ++ others_names q others

  -- what the cases of a switch that ends at `end` bind and declare; each ends at the next one
  pub cases_names : Place → Place → CaseTrees → List Span
  cases_names q end trees.NoCase = []
  cases_names q end (trees.MoreCases c cases) = case_names q (behind_case cases end) c ++ cases_names q end cases

  -- what a case that ends at `end` binds and declares, if the place is before that
  pub case_names : Place → Place → CaseTree → List Span
  case_names q end (trees.Case word endpoint awaited left binds statements) =
      if is_before q end then those_before q (bound_names binds) ++ statements_names q statements else []

-- the parameters and variables that a method declares before a place, in the blocks around the place
abbrev pub method_names : Place → MethodTree → List Span
method_names q m = those_before q (map (λ x. x.name) m.params) ++ block_names q m.body
