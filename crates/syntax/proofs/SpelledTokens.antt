-- Each rule of the grammar spells only tokens: the end is in no spelling.
use Rattle.std.proofs.Common.{◌≡◌, true, false, List, [], ◌∷◌, Some, None, refl}
use Rattle.std.specs.List.{flat_map, list_all}
use Rattle.std.proofs.lemmas.List.Folds.{list_all-append}
use Rattle.source.specs.declared.kind.Kind.{Kind}
use Rattle.source.specs.declared.kind.Kind.TheVariants as kind
use Rattle.tree.specs.Symbols.{Symbol}
use Rattle.tree.specs.Spelling.{word, optional, when, comma, comma_list}
use Rattle.tree.specs.Grammar.{in_heap_words, colon_name, bang_word, heap_type, value_type, param, message, edge, path, line, body, state, member, contract, access_word}
use Rattle.tree.specs.ContractTrees.{Empty, Path, One, Message, State}
use Rattle.tree.specs.Operators.{Operators, Add, Level, operator, prefix}
use Rattle.tree.specs.Expressions.{Unary, Chain, Done, More, Number, True, False, Target, Parens, Variable, Field, Element, expression, dot_name, level, steps, atom, target}
use Rattle.tree.specs.Values.{Struct, Array, Expression, Call, New, call, made_spelling, value_spelling}
use Rattle.tree.specs.StatementTrees as form
use Rattle.tree.specs.StatementTrees.{NoStatement, MoreStatements, Braces, Test, NoOther, Else, ElseIf, Case, NoCase, MoreCases}
use Rattle.tree.specs.StatementGrammar.{init, declare, assign, plain, awaited, bind, statement, statements, block, test, others, case, cases}
use Rattle.tree.specs.Trees as defined
use Rattle.tree.specs.Programs.{field, result_type, claims_words, parameter, method, definition, item, program}
use Rattle.tree.specs.declared.statement.Awaited.TheVariants as awaits
use Rattle.tree.specs.declared.types.Type.TheVariants as type
use Rattle.tree.specs.declared.types.Heap.TheVariants as heap
use Rattle.tree.specs.declared.expression.SumOperator.TheVariants as sum
use Rattle.syntax.proofs.pieces.Tops.{is_token, SpellsTokens}

-- what rules are built from

sequence_tokens : {X : Type 0} (a : X → List Symbol) → SpellsTokens a → SpellsTokens (flat_map a)
sequence_tokens a h [] = refl
sequence_tokens a h (x ∷ xs) = simp (list_all-append, h, sequence_tokens a h xs)

optional_tokens : {X : Type 0} (a : X → List Symbol) → SpellsTokens a → SpellsTokens (optional a)
optional_tokens a h None = refl
optional_tokens a h (Some x) = h x

when_tokens : (a : List Symbol) → list_all is_token a ≡ true → SpellsTokens (when a)
when_tokens a h true = h
when_tokens a h false = refl

listed_tokens : {X : Type 0} (a : X → List Symbol) → SpellsTokens a → SpellsTokens (comma_list a)
listed_tokens a h [] = refl
listed_tokens a h (x ∷ xs) = simp (list_all-append, h, sequence_tokens (comma a) h xs)

-- types and contracts

heap_tokens : SpellsTokens heap_type
heap_tokens (heap.Pointer span bang) = simp (list_all-append, optional_tokens bang_word (λ _. refl) bang)
heap_tokens (heap.Array element bang) = simp (list_all-append, optional_tokens bang_word (λ _. refl) bang)
heap_tokens (heap.Endpoint first end state bang in_heap) =
    let stated = optional_tokens colon_name (λ _. refl) state in
    let banged = optional_tokens bang_word (λ _. refl) bang in
    simp (list_all-append, stated, banged, when_tokens in_heap_words refl in_heap)

type_tokens : SpellsTokens value_type
type_tokens (type.Scalar s) = refl
type_tokens (type.Heap h) = heap_tokens h

param_tokens : SpellsTokens param
param_tokens p = simp (list_all-append, type_tokens p.ty)

message_tokens : SpellsTokens message
message_tokens m = simp (list_all-append, listed_tokens param param_tokens m.params)

path_tokens : SpellsTokens path
path_tokens p = simp (list_all-append, sequence_tokens edge (λ _. refl) p.others)

line_tokens : SpellsTokens line
line_tokens p = simp (list_all-append, path_tokens p)

body_tokens : SpellsTokens body
body_tokens Empty = refl
body_tokens (Path p) = line_tokens p
body_tokens (One paths close semicolon) =
    simp (list_all-append, sequence_tokens line line_tokens paths, when_tokens (word kind.Semicolon) refl semicolon)

member_tokens : SpellsTokens member
member_tokens (Message m) = message_tokens m
member_tokens (State s) = body_tokens s.body

contract_tokens : SpellsTokens contract
contract_tokens c =
    let messages = sequence_tokens message message_tokens c.messages in
    let members = sequence_tokens member member_tokens c.members in
    simp (list_all-append, messages, body_tokens c.state.body, members)

-- expressions and values

operator_tokens : (l : Operators) → SpellsTokens (operator l)
operator_tokens Add (sum.Minus span) = refl
operator_tokens l o = refl

mutual
  level_tokens : {l : Level} → SpellsTokens (level {l = l})
  level_tokens (Unary prefixes a) = simp (list_all-append, sequence_tokens prefix (λ _. refl) prefixes, atom_tokens a)
  level_tokens (Chain l first others) = simp (list_all-append, level_tokens first, steps_tokens others)

  steps_tokens : {l : Operators} → SpellsTokens (steps {l = l})
  steps_tokens (Done l) = refl
  steps_tokens (More l o x xs) = simp (list_all-append, operator_tokens l o, level_tokens x, steps_tokens xs)

  atom_tokens : SpellsTokens atom
  atom_tokens (Number span) = refl
  atom_tokens (True span) = refl
  atom_tokens (False span) = refl
  atom_tokens (Target t) = target_tokens t
  atom_tokens (Parens left inner) = simp (list_all-append, level_tokens inner)

  target_tokens : SpellsTokens target
  target_tokens (Variable variable) = refl
  target_tokens (Field variable field) = refl
  target_tokens (Element variable index) = simp (list_all-append, level_tokens index)

call_tokens : SpellsTokens call
call_tokens c = simp (list_all-append, optional_tokens dot_name (λ _. refl) c.member, listed_tokens expression level_tokens c.arguments)

value_tokens : SpellsTokens value_spelling
value_tokens (Expression e) = level_tokens e
value_tokens (Call c) = call_tokens c
value_tokens (New n) = made_tokens n.made
  where
    made_tokens : SpellsTokens made_spelling
    made_tokens (Struct span left given) = simp (list_all-append, listed_tokens expression level_tokens given)
    made_tokens (Array element length) = simp (list_all-append, level_tokens length)

-- statements

declare_tokens : SpellsTokens declare
declare_tokens d = simp (list_all-append, type_tokens d.ty, optional_tokens init value_tokens d.value)

assign_tokens : SpellsTokens assign
assign_tokens a = simp (list_all-append, target_tokens a.target, value_tokens a.value)

awaited_tokens : SpellsTokens awaited
awaited_tokens (awaits.Message span) = refl
awaited_tokens (awaits.Closed span) = refl

bind_tokens : SpellsTokens bind
bind_tokens b = simp (list_all-append, optional_tokens value_type type_tokens b.ty)

plain_tokens : SpellsTokens plain
plain_tokens (form.Declare d) = declare_tokens d
plain_tokens (form.Assign a) = assign_tokens a
plain_tokens (form.Call c) = simp (list_all-append, call_tokens c)
plain_tokens (form.Start span c) = simp (list_all-append, call_tokens c)
plain_tokens (form.Return span result) = simp (list_all-append, optional_tokens expression level_tokens result)
plain_tokens _ = refl

mutual
  statement_tokens : SpellsTokens statement
  statement_tokens (form.Block b) = block_tokens b
  statement_tokens (form.Plain x) = plain_tokens x
  statement_tokens (form.If t more) = simp (list_all-append, test_tokens kind.If t, others_tokens more)
  statement_tokens (form.While t) = test_tokens kind.While t
  statement_tokens (form.Switch span first more close) = simp (list_all-append, case_tokens first, cases_tokens more)

  statements_tokens : SpellsTokens statements
  statements_tokens NoStatement = refl
  statements_tokens (MoreStatements x xs) = simp (list_all-append, statement_tokens x, statements_tokens xs)

  block_tokens : SpellsTokens block
  block_tokens (Braces inner close) = simp (list_all-append, statements_tokens inner)

  test_tokens : (opening : Kind) → SpellsTokens (test opening)
  test_tokens opening (Test span left e body) = simp (list_all-append, level_tokens e, block_tokens body)

  others_tokens : SpellsTokens others
  others_tokens NoOther = refl
  others_tokens (Else b) = block_tokens b
  others_tokens (ElseIf t more) = simp (list_all-append, test_tokens kind.If t, others_tokens more)

  case_tokens : SpellsTokens case
  case_tokens (Case span endpoint message left binds inner) =
      simp (list_all-append, awaited_tokens message, listed_tokens bind bind_tokens binds, statements_tokens inner)

  cases_tokens : SpellsTokens cases
  cases_tokens NoCase = refl
  cases_tokens (MoreCases x xs) = simp (list_all-append, case_tokens x, cases_tokens xs)

-- structs, classes and programs

access_tokens : SpellsTokens (optional (λ a. word (access_word a)))
access_tokens = optional_tokens (λ a. word (access_word a)) (λ _. refl)

field_tokens : SpellsTokens field
field_tokens f = simp (list_all-append, access_tokens f.access, type_tokens f.ty)

result_tokens : SpellsTokens result_type
result_tokens None = refl
result_tokens (Some t) = type_tokens t

parameter_tokens : SpellsTokens parameter
parameter_tokens p = simp (list_all-append, when_tokens claims_words refl p.claims, type_tokens p.ty)

method_tokens : SpellsTokens method
method_tokens m =
    let params = listed_tokens parameter parameter_tokens m.params in
    simp (list_all-append, access_tokens m.access, result_tokens m.result, params, block_tokens m.body)

definition_tokens : SpellsTokens definition
definition_tokens (defined.Contract c) = contract_tokens c
definition_tokens (defined.Struct s) = simp (list_all-append, sequence_tokens field field_tokens s.fields)
definition_tokens (defined.Class c) = simp (list_all-append, sequence_tokens method method_tokens c.methods)

item_tokens : SpellsTokens item
item_tokens i = simp (list_all-append, access_tokens i.access, definition_tokens i.definition)

pub program_tokens : SpellsTokens program
program_tokens = sequence_tokens item item_tokens
