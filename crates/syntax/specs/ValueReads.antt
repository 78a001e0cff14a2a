-- The symbols with which values could continue, and the tokens with which they begin.
use Rattle.std.specs.Prelude.{Bool, true, false, ◌||◌, ◌&&◌, List, [], Option}
use Rattle.source.specs.declared.kind.Kind.{Kind}
use Rattle.source.specs.declared.kind.Kind.TheVariants as kind
use Rattle.tree.specs.Symbols.{Symbol, kind_is, is_kind, by_kind}
use Rattle.tree.specs.Operators.{Level}
use Rattle.tree.specs.Expressions.{LevelTree, Unary, Chain, Done, More, Target, Variable, Field, ExpressionTree}
use Rattle.tree.specs.Values.{ValueTree, Expression, Call, New}
use Rattle.syntax.specs.Reading.{listed_open_on, listed_open_at}
use Rattle.syntax.specs.ExpressionReads.{expression_on, expression_at, opens_expression}

-- whether an expression of a level is just a name or a field, as before the arguments of a call
abbrev pub is_callee : {l : Level} → LevelTree l → Bool
is_callee (Unary [] (Target (Variable variable))) = true
is_callee (Unary [] (Target (Field variable field))) = true
is_callee (Unary prefixes a) = false
is_callee (Chain l first (Done _)) = is_callee first
is_callee (Chain l first (More _ o x xs)) = false

-- the symbols with which some value could continue
abbrev pub value_on : Symbol → Bool
value_on y = expression_on y || is_kind kind.OpenParen y

-- the symbols with which this value could continue
abbrev pub value_at : ValueTree → Symbol → Bool
value_at (Expression e) y = expression_at e y || (is_callee e && is_kind kind.OpenParen y)
value_at (Call c) y = false
value_at (New n) y = false

-- whether a value begins with this token
abbrev pub opens_value : Option Kind → Bool
opens_value k = opens_expression k || kind_is kind.New k

-- the symbols with which some list of expressions could continue, and those with which this one could

abbrev pub expressions_on : Symbol → Bool
expressions_on = listed_open_on (by_kind opens_expression) expression_on

abbrev pub expressions_at : List ExpressionTree → Symbol → Bool
expressions_at = listed_open_at (by_kind opens_expression) expression_at
