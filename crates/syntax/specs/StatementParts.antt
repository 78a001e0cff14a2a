-- Statements by their parts.
use Rattle.std.specs.Prelude.{Bool, ◌||◌, List, [], ◌∷◌, Option, Some, None, Vec, map}
use Rattle.std.specs.Global.{Global}
use Rattle.std.specs.List.{flat_map}
use Rattle.source.specs.declared.kind.Kind.{Kind}
use Rattle.source.specs.declared.kind.Kind.TheVariants as kind
use Rattle.source.specs.declared.token.Span.{Span}
use Rattle.tree.specs.Symbols.{Symbol, is_kind, kind_is, by_kind}
use Rattle.tree.specs.Spelling.{word, token_at, name, sequence, optional, comma_list, parens}
use Rattle.syntax.specs.Reading.{never, optional_at, listed_open_on, listed_open_at}
use Rattle.tree.specs.Expressions.{ExpressionTree}
use Rattle.syntax.specs.ExpressionReads.{opens_expression, expression_on}
use Rattle.tree.specs.ExpressionTrees.{expression_tree}
use Rattle.tree.specs.Values.{ValueTree, CallTree, value_spelling, arguments}
use Rattle.syntax.specs.ValueReads.{value_on}
use Rattle.tree.specs.declared.expression.Expression.{Expression}
use Rattle.tree.specs.StatementTrees.{IfTree, SwitchTree, Start, Return}
use Rattle.tree.specs.StatementGrammar.{init, awaited, bind, test, others, case, plain}
use Rattle.syntax.specs.StatementFirsts.{others_at}
use Rattle.tree.specs.declared.statement.Awaited.{Awaited}
use Rattle.tree.specs.declared.statement.Bind.{Bind}
use Rattle.syntax.specs.Firsts.{opens_type}
use Rattle.syntax.specs.Types.{scalar_type, named_tail, of_tail}
use Rattle.syntax.specs.declared.cases.CaseFront.{CaseFront}
use Rattle.syntax.specs.declared.fronts.NamedTail.{NamedTail}
use Rattle.syntax.specs.declared.fronts.ScalarType.{ScalarType}
use Rattle.syntax.specs.declared.statement_ends.ChannelEnds.{ChannelEnds}

-- if = "if" test others .
abbrev pub if_parts : IfTree → List Symbol
if_parts i = sequence (test kind.If i.first ∷ others i.others ∷ [])

-- the symbols with which this `if` could continue
abbrev pub if_at : IfTree → Symbol → Bool
if_at i = others_at i.others

-- switch = "switch" "receive" "{" case { case } "}" .
abbrev pub switch_parts : SwitchTree → List Symbol
switch_parts s = sequence (token_at kind.Switch s.word ∷ word kind.Receive ∷ word kind.OpenBrace ∷ case s.first ∷ flat_map case s.others
    ∷ token_at kind.CloseBrace s.close ∷ [])

-- the part of a case before its statements
pub record CaseFrontTree : Type 0 where
  pub word : Span
  pub endpoint : Span
  pub message : Awaited
  pub open_paren : Span
  pub binds : List Bind

-- case_front = "case" ID "." awaited "(" [ bind { "," bind } ] ")" ":" .
abbrev pub case_front : CaseFrontTree → List Symbol
case_front c = sequence (token_at kind.Case c.word ∷ name c.endpoint ∷ word kind.Dot ∷ awaited c.message
    ∷ parens (comma_list bind) (c.open_paren, c.binds) ∷ word kind.Colon ∷ [])

-- declared = ID [ init ] ";" .
abbrev pub declared : Span × Option ValueTree → List Symbol
declared p = sequence (name p.0 ∷ optional init p.1 ∷ word kind.Semicolon ∷ [])

-- assigned = "=" value ";" .
abbrev pub assigned : ValueTree → List Symbol
assigned v = sequence (word kind.Equal ∷ value_spelling v ∷ word kind.Semicolon ∷ [])

-- called = "(" [ expression { "," expression } ] ")" ";" .
abbrev pub called : Span × List ExpressionTree → List Symbol
called p = sequence (arguments p ∷ word kind.Semicolon ∷ [])

-- channel_ends = "NewChannel" "(" "out" ID "," "out" ID ")" ";" .
abbrev pub channel_ends : ChannelEnds → List Symbol
channel_ends c = sequence (token_at kind.NewChannel c.word ∷ token_at kind.OpenParen c.open ∷ word kind.Out ∷ name c.first ∷ word kind.Comma
    ∷ word kind.Out ∷ name c.second ∷ word kind.CloseParen ∷ word kind.Semicolon ∷ [])

-- jump = word ";" .
abbrev pub jump : Kind → Span → List Symbol
jump opening span = sequence (token_at opening span ∷ word kind.Semicolon ∷ [])

-- start = "start" call ";" .
abbrev pub start : Span × CallTree → List Symbol
start p = plain (Start p.0 p.1)

-- return = "return" [ expression ] ";" .
abbrev pub return_parts : Span × Option ExpressionTree → List Symbol
return_parts p = plain (Return p.0 p.1)

-- the symbols with which an initial value, or none, could continue
abbrev pub init_on : Symbol → Bool
init_on y = is_kind kind.Equal y || value_on y

-- the symbols with which a returned expression, or none, could continue
abbrev pub result_on : Symbol → Bool
result_on y = by_kind opens_expression y || expression_on y

-- the arguments of a call, as a tree
abbrev pub called_tree : Span × Vec Expression Global → Span × List ExpressionTree
called_tree p = (p.0, map expression_tree p.1.items)

-- typed = named_tail ID .
abbrev pub typed : NamedTail × Span → List Symbol
typed p = sequence (named_tail p.0 ∷ name p.1 ∷ [])

-- named_bind = ID [ typed ] .
abbrev pub named_bind : Span × Option (NamedTail × Span) → List Symbol
named_bind p = sequence (name p.0 ∷ optional typed p.1 ∷ [])

-- scalar_bind = scalar_type ID .
abbrev pub scalar_bind : ScalarType × Span → List Symbol
scalar_bind p = sequence (scalar_type p.0 ∷ name p.1 ∷ [])

-- the bind that a name and what follows it form
abbrev pub of_typed : Span → Option (NamedTail × Span) → Bind
of_typed span None = record { ty = None; name = span }
of_typed span (Some p) = record { ty = Some (of_tail span p.0); name = p.1 }

-- the part of a case before its statements, as a tree
abbrev pub case_front_tree : CaseFront → CaseFrontTree
case_front_tree c = record { word = c.word; endpoint = c.endpoint; message = c.message; open_paren = c.open; binds = c.binds.items }

-- whether the part of a type after its name begins with this token
abbrev pub opens_tail : Option Kind → Bool
opens_tail k = kind_is kind.Star k || kind_is kind.Dot k

-- the symbols with which some bind could continue: a name alone may be that of a type
abbrev pub bind_on : Symbol → Bool
bind_on = by_kind opens_tail

-- the symbols with which this bind could continue
abbrev pub bind_at : Bind → Symbol → Bool
bind_at b = optional_at bind_on (λ _. never) b.ty

-- the symbols with which some list of binds could continue
abbrev pub binds_on : Symbol → Bool
binds_on = listed_open_on (by_kind opens_type) bind_on

-- the symbols with which this list of binds could continue
abbrev pub binds_at : List Bind → Symbol → Bool
binds_at = listed_open_at (by_kind opens_type) bind_at
