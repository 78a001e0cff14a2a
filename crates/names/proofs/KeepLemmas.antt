-- A statement keeps the variables in scope and only appends to them.
use Rattle.std.proofs.Common.{◌≡◌, ℕ, Bool, true, false, List, [], ◌∷◌, ◌++◌, length, take, if◌then◌else◌, Option, Some, None, sym, refl, ap, ◌∙◌, append_assoc, append-nil}
use Rattle.std.specs.Prelude.{is_some}
use Rattle.std.proofs.lemmas.List.{take_at}
use Rattle.source.specs.declared.token.Span.{Span}
use Rattle.tree.specs.StatementTrees as trees
use Rattle.tree.specs.StatementTrees.{PlainTree, StatementTree, StatementTrees, BlockTree, TestTree, OtherTrees, CaseTree, CaseTrees}
use Rattle.tree.specs.declared.statement as made
use Rattle.tree.specs.declared.contract as contract_nodes
use Rattle.tree.specs.declared.types as type_nodes
use Rattle.names.specs.Bodies.{Surroundings, plain_turn, statement_turn, statements_turn, block_turn, test_turn, others_turn, case_turn, cases_turn, in_loop, in_switch, head_of, heads_of}
use Rattle.names.specs.Cases.{Head, bind_turn, binds_turn}
use Rattle.declarations.specs.Program.{ProgramText}
use Rattle.names.specs.Variables.{ScopeVariable, NameFrame, variable_named, declared_variable}
use Rattle.declarations.specs.declared.value_type.ValueType.{ValueType}

pub record Extends (f g : NameFrame) : Type 0 where
  pub more : List ScopeVariable
  pub is : g.variables ≡ f.variables ++ more

same_extends : (f g : NameFrame) → g.variables ≡ f.variables → Extends f g
same_extends f g same = record { more = []; is = same ∙ sym (append-nil f.variables) }

extends_then : (f g h : NameFrame) → Extends f g → Extends g h → Extends f h
extends_then f g h first second = record { more = first.more ++ second.more; is = second.is ∙ ap (λ l. l ++ second.more) first.is ∙ append_assoc f.variables first.more second.more }

pub kept : (f g : NameFrame) → Extends f g → take (length f.variables) g.variables ≡ f.variables
kept f g extends = ap (take (length f.variables)) extends.is ∙ take_at f.variables extends.more _ refl

one_more : (b : Bool) (vs : List ScopeVariable) (v : ScopeVariable) → (if b then vs else vs ++ v ∷ []) ≡ vs ++ (if b then [] else v ∷ [])
one_more true vs v = sym (append-nil vs)
one_more false vs v = refl

declared_extends : (text : List ℕ) (name : Span) (ty : ValueType) (heap : Bool) (f : NameFrame) → Extends f (declared_variable text name ty heap f).frame
declared_extends text name ty heap f = record {
  more = if is_some (variable_named text f.variables name) then [] else record { name = name; ty = ty } ∷ [];
  is = one_more (is_some (variable_named text f.variables name)) f.variables (record { name = name; ty = ty });
}

block_same : (m : Surroundings) (b : BlockTree) (f : NameFrame) → (block_turn m b f).frame.variables ≡ f.variables
block_same m (trees.Braces statements close) f = refl

test_same : (m : Surroundings) (t : TestTree) (f : NameFrame) → (test_turn m t f).frame.variables ≡ f.variables
test_same m (trees.Test word left test body) f = block_same m body f

others_same : (m : Surroundings) (others : OtherTrees) (f : NameFrame) → (others_turn m others f).frame.variables ≡ f.variables
others_same m trees.NoOther f = refl
others_same m (trees.Else b) f = block_same m b f
others_same m (trees.ElseIf t others) f = others_same m others (test_turn m t f).frame ∙ test_same m t f

case_same : (m : Surroundings) (all earlier : List Head) (c : CaseTree) (f : NameFrame) → (case_turn m all earlier c f).frame.variables ≡ f.variables
case_same m all earlier (trees.Case word endpoint awaited left binds statements) f = refl

cases_same : (m : Surroundings) (all earlier : List Head) (cases : CaseTrees) (f : NameFrame) → (cases_turn m all earlier cases f).frame.variables ≡ f.variables
cases_same m all earlier trees.NoCase f = refl
cases_same m all earlier (trees.MoreCases c cases) f = cases_same m all (earlier ++ head_of c ∷ []) cases (case_turn m all earlier c f).frame ∙ case_same m all earlier c f

plain_extends : (m : Surroundings) (x : PlainTree) (f : NameFrame) → Extends f (plain_turn m x f).frame
plain_extends m (trees.Declare d) f = declared_extends _ _ _ _ f
plain_extends m x f = same_extends f _ refl

statement_extends : (m : Surroundings) (x : StatementTree) (f : NameFrame) → Extends f (statement_turn m x f).frame
statement_extends m (trees.Block b) f = same_extends f _ (block_same m b f)
statement_extends m (trees.Plain x) f = plain_extends m x f
statement_extends m (trees.If first others) f = same_extends f _ (others_same m others (test_turn m first f).frame ∙ test_same m first f)
statement_extends m (trees.While test) f = same_extends f _ (test_same (in_loop m) test f)
statement_extends m (trees.Switch word first cases close) f =
    let all : List Head = head_of first ∷ heads_of cases in
    let behind : NameFrame = (case_turn (in_switch m) all [] first f).frame in
    same_extends f _ (cases_same (in_switch m) all (head_of first ∷ []) cases behind ∙ case_same (in_switch m) all [] first f)

pub statements_extend : (m : Surroundings) (xs : StatementTrees) (f : NameFrame) → Extends f (statements_turn m xs f).frame
statements_extend m trees.NoStatement f = same_extends f f refl
statements_extend m (trees.MoreStatements x xs) f = extends_then f _ _ (statement_extends m x f) (statements_extend m xs (statement_turn m x f).frame)

bind_extends : (p : ProgramText) (param : Option contract_nodes.MessageParameter.MessageParameter) (name : Span) (t : Option type_nodes.Type.Type) (f : NameFrame) → Extends f (bind_turn p param name t f).frame
bind_extends p param name (Some t) f = declared_extends _ _ _ _ f
bind_extends p param name None f = declared_extends _ _ _ _ f

binds_extend : (p : ProgramText) (params : List contract_nodes.MessageParameter.MessageParameter) (binds : List made.Bind.Bind) (f : NameFrame) → Extends f (binds_turn p params binds f).frame
binds_extend p params [] f = same_extends f f refl
binds_extend p [] (b ∷ binds) f = extends_then f _ _ (bind_extends p None b.name b.ty f) (binds_extend p [] binds (bind_turn p None b.name b.ty f).frame)
binds_extend p (x ∷ params) (b ∷ binds) f = extends_then f _ _ (bind_extends p (Some x) b.name b.ty f) (binds_extend p params binds (bind_turn p (Some x) b.name b.ty f).frame)

-- what a case binds and its statements extend the frame
pub case_extends : (m : Surroundings) (params : List contract_nodes.MessageParameter.MessageParameter) (binds : List made.Bind.Bind) (xs : StatementTrees) (f : NameFrame) → Extends f (statements_turn m xs (binds_turn m.program params binds f).frame).frame
case_extends m params binds xs f = extends_then f _ _ (binds_extend m.program params binds f) (statements_extend m xs (binds_turn m.program params binds f).frame)
