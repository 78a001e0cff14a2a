-- Values and calls as trees, and their grammar.
use Rattle.std.specs.Prelude.{List, [], ◌∷◌, map, Option}
use Rattle.source.specs.declared.kind.Kind.TheVariants as kind
use Rattle.source.specs.declared.token.Span.{Span}
use Rattle.tree.specs.Symbols.{Symbol}
use Rattle.tree.specs.Spelling.{word, token_at, name, sequence, optional, comma_list, within, parens}
use Rattle.tree.specs.Grammar.{scalar_word}
use Rattle.tree.specs.Expressions.{ExpressionTree, expression, dot_name}
use Rattle.tree.specs.ExpressionTrees.{expression_tree}
use Rattle.program.specs.declared.types.Scalar.{Scalar}
use Rattle.tree.specs.declared.value as values
use Rattle.tree.specs.declared.value.Made.TheVariants as made
use Rattle.tree.specs.declared.value.Value.TheVariants as value

-- a call
pub record CallTree : Type 0 where
  pub name : Span
  pub member : Option Span
  pub open_paren : Span
  pub arguments : List ExpressionTree

-- what `new` makes: a struct or an array
pub data MadeTree : Type 0 where
  Struct : Span → Span → List ExpressionTree → MadeTree
  Array : Scalar → ExpressionTree → MadeTree

-- a `new`
pub record NewTree : Type 0 where
  pub word : Span
  pub made : MadeTree

-- what may follow `=`: an expression, a call or a `new`
pub data ValueTree : Type 0 where
  Expression : ExpressionTree → ValueTree
  Call : CallTree → ValueTree
  New : NewTree → ValueTree

-- a call in memory, as a tree
abbrev pub call_tree : values.Call.Call → CallTree
call_tree c = record { name = c.name; member = c.member; open_paren = c.open; arguments = map expression_tree c.arguments.items }

-- what `new` makes, in memory, as a tree
abbrev pub made_tree : values.Made.Made → MadeTree
made_tree (made.Struct name left given) = Struct name left (map expression_tree given.items)
made_tree (made.Array element length) = Array element (expression_tree length.value)

-- a `new` in memory, as a tree
abbrev pub new_tree : values.New.New → NewTree
new_tree n = record { word = n.word; made = made_tree n.made }

-- a value in memory, as a tree
abbrev pub value_tree : values.Value.Value → ValueTree
value_tree (value.Expression e) = Expression (expression_tree e)
value_tree (value.Call c) = Call (call_tree c.value)
value_tree (value.New n) = New (new_tree n.value)

-- arguments = "(" [ expression { "," expression } ] ")" .
abbrev pub arguments : Span × List ExpressionTree → List Symbol
arguments = parens (comma_list expression)

-- call = ID [ "." ID ] arguments .
abbrev pub call : CallTree → List Symbol
call c = sequence (name c.name ∷ optional dot_name c.member ∷ arguments (c.open_paren, c.arguments) ∷ [])

-- made_struct = ID arguments . The arguments are for the owning fields.
abbrev pub made_struct : Span × Span × List ExpressionTree → List Symbol
made_struct p = sequence (name p.0 ∷ arguments (p.1, p.2) ∷ [])

-- made_array = scalar "[" expression "]" .
abbrev pub made_array : Scalar × ExpressionTree → List Symbol
made_array p = sequence (word (scalar_word p.0) ∷ within kind.OpenBracket expression kind.CloseBracket p.1 ∷ [])

-- made = made_struct | made_array .
abbrev pub made_spelling : MadeTree → List Symbol
made_spelling (Struct span left given) = made_struct (span, left, given)
made_spelling (Array element length) = made_array (element, length)

-- new = "new" "[" "ExHeap" "]" made .
abbrev pub new_spelling : NewTree → List Symbol
new_spelling n =
    sequence (token_at kind.New n.word ∷ word kind.OpenBracket ∷ word kind.ExHeap ∷ word kind.CloseBracket ∷ made_spelling n.made ∷ [])

-- value = expression | call | new .
abbrev pub value_spelling : ValueTree → List Symbol
value_spelling (Expression e) = expression e
value_spelling (Call c) = call c
value_spelling (New n) = new_spelling n
