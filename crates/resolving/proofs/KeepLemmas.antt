-- A statement keeps the variables in scope and only appends to them.
use Rattle.std.proofs.Common.{◌≡◌, ℕ, Bool, true, false, List, [], ◌∷◌, ◌++◌, length, take, if◌then◌else◌, Option, Some, None, sym, refl, ap, ◌∙◌, append_assoc, append-nil}
use Rattle.std.specs.Prelude.{is_some}
use Rattle.std.proofs.lemmas.List.{take_at}
use Rattle.source.specs.declared.place.Place.{Place}
use Rattle.tree.specs.StatementTrees as trees
use Rattle.tree.specs.StatementTrees.{PlainTree, StatementTree, StatementTrees, BlockTree, TestTree, OtherTrees, CaseTree, CaseTrees, behind_case}
use Rattle.tree.specs.declared.statement as made
use Rattle.tree.specs.declared.contract as tree
use Rattle.declarations.specs.Program.{ProgramText}
use Rattle.program.specs.declared.types.HeapType.{HeapType}
use Rattle.resolving.specs.Binds.{bind_told, binds_told, bound_as}
use Rattle.resolving.specs.Locals.{Local, LocalFrame, local_named, with_local, with_declaration, declared_as}
use Rattle.resolving.specs.Plain.{declaration_of, frame_behind}
use Rattle.resolving.specs.Told.{statement_told, statements_told, block_told, test_told, others_told, case_told, cases_told}
use Rattle.resolving.specs.Staying.{Staying, stays_here, in_switch}
use Rattle.resolving.specs.declared.locals.Declaration.{Declaration}

-- the variables in scope in g are those in scope in f, and then maybe more
pub record Extends (f g : LocalFrame) : Type 0 where
  pub more : List Local
  pub is : g.locals ≡ f.locals ++ more

same_extends : (f g : LocalFrame) → g.locals ≡ f.locals → Extends f g
same_extends f g same = record { more = []; is = same ∙ sym (append-nil f.locals) }

extends_then : (f g h : LocalFrame) → Extends f g → Extends g h → Extends f h
extends_then f g h first second = record { more = first.more ++ second.more; is = second.is ∙ ap (λ l. l ++ second.more) first.is ∙ append_assoc f.locals first.more second.more }

-- the first variables of g, as many as f has, are those of f
pub kept : (f g : LocalFrame) → Extends f g → take (length f.locals) g.locals ≡ f.locals
kept f g extends = ap (take (length f.locals)) extends.is ∙ take_at f.locals extends.more _ refl

one_more : (b : Bool) (ls : List Local) (l : Local) → (if b then ls else ls ++ l ∷ []) ≡ ls ++ (if b then [] else l ∷ [])
one_more true ls l = sym (append-nil ls)
one_more false ls l = refl

entered_extends : (text : List ℕ) (d : Declaration) (number : Option ℕ) (f g : LocalFrame) → g.locals ≡ with_local text d number f.locals → Extends f g
entered_extends text d number f g is = record {
  more = if is_some (local_named text f.locals d.name) then [] else record { name = d.name; ty = d.ty; number = number } ∷ [];
  is = is ∙ one_more (is_some (local_named text f.locals d.name)) f.locals (record { name = d.name; ty = d.ty; number = number });
}

held_extends : (text : List ℕ) (d : Declaration) (held : Option HeapType) (f : LocalFrame) → Extends f (declared_as text d held f)
held_extends text d (Some held) f = entered_extends text d (Some (length f.variables)) f _ refl
held_extends text d None f = entered_extends text d None f _ refl

declared_extends : (text : List ℕ) (d : Declaration) (f : LocalFrame) → Extends f (with_declaration text d f)
declared_extends text d f = held_extends text d d.held f

block_same : (p : ProgramText) (class : ℕ) (stays : Staying) (b : BlockTree) (f : LocalFrame) → (block_told p class stays b f).frame.locals ≡ f.locals
block_same p class stays (trees.Braces statements close) f = refl

test_same : (p : ProgramText) (class : ℕ) (stays : Staying) (t : TestTree) (f : LocalFrame) → (test_told p class stays t f).frame.locals ≡ f.locals
test_same p class stays (trees.Test word left test body) f = block_same p class stays body f

others_same : (p : ProgramText) (class : ℕ) (stays : Staying) (others : OtherTrees) (f : LocalFrame) → (others_told p class stays others f).frame.locals ≡ f.locals
others_same p class stays trees.NoOther f = refl
others_same p class stays (trees.Else b) f = block_same p class stays b f
others_same p class stays (trees.ElseIf t others) f = others_same p class stays others (test_told p class stays t f).frame ∙ test_same p class stays t f

case_same : (p : ProgramText) (class : ℕ) (stays : Staying) (behind : Place) (c : CaseTree) (f : LocalFrame) → (case_told p class stays behind c f).frame.locals ≡ f.locals
case_same p class stays behind (trees.Case word endpoint awaited opened binds statements) f = refl

cases_same : (p : ProgramText) (class : ℕ) (stays : Staying) (cases : CaseTrees) (close : Place) (f : LocalFrame) → (cases_told p class stays cases close f).frame.locals ≡ f.locals
cases_same p class stays trees.NoCase close f = refl
cases_same p class stays (trees.MoreCases c cases) close f = cases_same p class stays cases close (case_told p class stays (behind_case cases close) c f).frame ∙ case_same p class stays (behind_case cases close) c f

plain_extends : (p : ProgramText) (class : ℕ) (x : PlainTree) (f : LocalFrame) → Extends f (frame_behind p class f x)
plain_extends p class (trees.Declare d) f = declared_extends p.text (declaration_of p d) f
plain_extends p class x f = same_extends f _ refl

statement_extends : (p : ProgramText) (class : ℕ) (stays : Staying) (x : StatementTree) (f : LocalFrame) → Extends f (statement_told p class stays x f).frame
statement_extends p class stays (trees.Block b) f = same_extends f _ (block_same p class stays b f)
statement_extends p class stays (trees.Plain x) f = plain_extends p class x f
statement_extends p class stays (trees.If first others) f = same_extends f _ (others_same p class stays others (test_told p class stays first f).frame ∙ test_same p class stays first f)
statement_extends p class stays (trees.While test) f = same_extends f _ (test_same p class (stays_here f) test f)
statement_extends p class stays (trees.Switch word first cases close) f = same_extends f _ (cases_same p class (in_switch stays f) (trees.MoreCases first cases) close.place f)

-- statements one after another extend the frame
pub statements_extend : (p : ProgramText) (class : ℕ) (stays : Staying) (xs : StatementTrees) (f : LocalFrame) → Extends f (statements_told p class stays xs f).frame
statements_extend p class stays trees.NoStatement f = same_extends f f refl
statements_extend p class stays (trees.MoreStatements x xs) f = extends_then f _ _ (statement_extends p class stays x f) (statements_extend p class stays xs (statement_told p class stays x f).frame)

binds_extend : (p : ProgramText) (params : List tree.MessageParameter.MessageParameter) (binds : List made.Bind.Bind) (f : LocalFrame) → Extends f (binds_told p params binds f).frame
binds_extend p params [] f = same_extends f f refl
binds_extend p [] (b ∷ binds) f = extends_then f _ _ (declared_extends p.text (bound_as p None b.name b.ty) f) (binds_extend p [] binds (bind_told p None b f).frame)
binds_extend p (x ∷ params) (b ∷ binds) f = extends_then f _ _ (declared_extends p.text (bound_as p (Some x) b.name b.ty) f) (binds_extend p params binds (bind_told p (Some x) b f).frame)

-- what a case binds and its statements extend the frame
pub case_extends : (p : ProgramText) (class : ℕ) (stays : Staying) (params : List tree.MessageParameter.MessageParameter) (binds : List made.Bind.Bind) (xs : StatementTrees) (f : LocalFrame) → Extends f (statements_told p class stays xs (binds_told p params binds f).frame).frame
case_extends p class stays params binds xs f = extends_then f _ _ (binds_extend p params binds f) (statements_extend p class stays xs (binds_told p params binds f).frame)
