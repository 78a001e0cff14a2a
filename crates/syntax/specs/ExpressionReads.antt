-- The symbols with which expressions could continue, and the tokens with which they begin.
use Rattle.std.specs.Prelude.{Bool, ◌||◌, List, Option}
use Rattle.source.specs.declared.kind.Kind.{Kind}
use Rattle.source.specs.declared.kind.Kind.TheVariants as kind
use Rattle.tree.specs.Symbols.{Symbol, kind_is, by_kind}
use Rattle.tree.specs.Operators.{Operators, Or, Level, Joined}
use Rattle.tree.specs.Expressions.{LevelTree, Unary, Chain, StepTrees, Done, More, AtomTree, Number, True, False}
use Rattle.tree.specs.Expressions.{Target, Parens, TargetTree, Variable, Field, Element, ExpressionTree, StepOf}
use Rattle.tree.specs.Factors.{FactorTree}
use Rattle.syntax.specs.Reading.{never, many_at}
use Rattle.syntax.specs.OperatorReads.{opens_prefix, joins, joins_factors, opens_rest, goes_on}

-- the symbols with which this target could continue
abbrev pub target_at : TargetTree → Symbol → Bool
target_at (Variable variable) = by_kind opens_rest
target_at (Field variable field) = never
target_at (Element variable index) = never

-- the symbols with which some target could continue
abbrev pub target_on : Symbol → Bool
target_on = by_kind opens_rest

-- the symbols with which this atom could continue
abbrev pub atom_at : AtomTree → Symbol → Bool
atom_at (Number span) = never
atom_at (True span) = never
atom_at (False span) = never
atom_at (Target t) = target_at t
atom_at (Parens left inner) = never

abbrev mutual
  -- the symbols with which this expression of a level could continue: those of its last atom, and the operators of
  -- the level and of those that bind more
  pub level_at : {l : Level} → LevelTree l → Symbol → Bool
  level_at (Unary prefixes a) y = atom_at a y
  level_at (Chain l first others) y = steps_at (level_at first) others y || by_kind (joins l) y

  -- the symbols with which the last of these parts could continue, or if there are none, what is before them
  pub steps_at : {l : Operators} → (Symbol → Bool) → StepTrees l → Symbol → Bool
  steps_at before (Done l) y = before y
  steps_at before (More l o x xs) y = steps_at (level_at x) xs y

-- the symbols with which some expression of a level could continue
abbrev pub level_on : Level → Symbol → Bool
level_on l = by_kind (goes_on l)

-- the symbols with which the part after an operator could continue
abbrev pub step_at : (l : Operators) → StepOf l → Symbol → Bool
step_at l p = level_at p.1

-- the symbols with which such a sequence could continue
abbrev pub steps_end : (l : Operators) → List (StepOf l) → Symbol → Bool
steps_end l = many_at (by_kind (joins l)) (step_at l)

-- the symbols with which the unary after an operator between factors could continue
abbrev pub factor_at : FactorTree → Symbol → Bool
factor_at f = level_at f.1

-- the symbols with which a sequence of these could continue
abbrev pub factors_end : List FactorTree → Symbol → Bool
factors_end = many_at (by_kind joins_factors) factor_at

-- the symbols with which some expression could continue
abbrev pub expression_on : Symbol → Bool
expression_on = level_on (Joined Or)

-- the symbols with which this expression could continue
abbrev pub expression_at : ExpressionTree → Symbol → Bool
expression_at x = level_at x

-- whether an atom begins with this token
abbrev pub opens_atom : Option Kind → Bool
opens_atom k = (((kind_is kind.Number k || kind_is kind.True k) || kind_is kind.False k) || kind_is kind.Name k) || kind_is kind.OpenParen k

-- whether an expression begins with this token
abbrev pub opens_expression : Option Kind → Bool
opens_expression k = opens_prefix k || opens_atom k
