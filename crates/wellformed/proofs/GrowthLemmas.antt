-- The variables of a method grow: those declared so far come before those declared later.
use Rattle.std.proofs.Common.{◌≡◌, ℕ, zero, suc, ◌<◌, List, [], ◌∷◌, ◌++◌, length, refl, sym, ap, ◌∙◌, subst, append_assoc, append-nil, arith, length-append}
use Rattle.std.specs.Prelude.{Option, None, Some, option_map, slice_get, IfSome}
use Rattle.source.specs.declared.place.Place.{Place}
use Rattle.source.specs.declared.token.Span.{Span}
use Rattle.tree.specs.StatementTrees as trees
use Rattle.tree.specs.StatementTrees.{PlainTree, StatementTree, StatementTrees, BlockTree, TestTree, OtherTrees, CaseTree, CaseTrees, behind_case}
use Rattle.tree.specs.declared.statement as made
use Rattle.tree.specs.declared.contract as contract_nodes
use Rattle.tree.specs.declared.types as type_nodes
use Rattle.declarations.specs.Types.{brought_type}
use Rattle.declarations.specs.Types.{type_meant}
use Rattle.declarations.specs.Program.{ProgramText}
use Rattle.declarations.specs.declared.value_type.ValueType.{ValueType}
use Rattle.program.specs.Methods.{VariableModel}
use Rattle.program.specs.declared.types as held
use Rattle.program.specs.declared.method.Role.{Role}
use Rattle.program.specs.declared.method.Role.TheVariants.{Local}
use Rattle.resolving.specs.Binds.{bind_told, binds_told, bound_as}
use Rattle.resolving.specs.Types.{heap_type, state_in, type_held}
use Rattle.resolving.specs.Locals.{LocalFrame, after_block, with_declaration, number_of}
use Rattle.resolving.specs.Plain.{frame_behind}
use Rattle.resolving.specs.Told.{awaited_message, awaited_params, statement_told, statements_told, block_told, test_told, others_told, case_told, cases_told}
use Rattle.resolving.specs.Staying.{Staying, stays_here, in_switch}
use Rattle.program.specs.Scopes.{AreNested}
use Rattle.wellformed.proofs.ListLemmas.{each_append}
use Rattle.wellformed.proofs.Standing.{Grows, IsLocal, Within, declares}

-- the variables of a frame are nested, and the last one in scope is among them
pub record Nests (f : LocalFrame) : Type 0 where
  pub nested : AreNested f.variables
  pub last : IfSome f.last (λ n. n < length f.variables)

-- what holds of each element with its index, and of one more after them
one_more : {X : Type 0} → (P : ℕ → X → Type 0) → (xs : List X) (x : X) → ((n : ℕ) (v : X) → slice_get xs n ≡ Some v → P n v) → P (length xs) x
    → (n : ℕ) (v : X) → slice_get (xs ++ x ∷ []) n ≡ Some v → P n v
one_more P [] x all last zero v is = let same : x ≡ v = cc in subst (P 0) same last
one_more P [] x all last (suc n) v is = cc
one_more P (y ∷ xs) x all last zero v is = all zero v is
one_more P (y ∷ xs) x all last (suc n) v is = one_more (λ k w. P (suc k) w) xs x (λ k w there. all (suc k) w there) last n v is

-- the last number in scope as that of a variable
numbered : (n : ℕ) (last : Option ℕ) → IfSome last (λ k. k < n) → IfSome (option_map number_of last) (λ o. o.0 < n)
numbered n None below = tt
numbered n (Some k) below = below

-- what is below a number is below a greater one
pub still_below : (xs more ys : List VariableModel) (last : Option ℕ) → ys ≡ xs ++ more → IfSome last (λ n. n < length xs) → IfSome last (λ n. n < length ys)
still_below xs more ys None is below = tt
still_below xs more ys (Some k) is below = let long = ap length is in omega (arith, length-append xs more)

-- a declared variable is the last one
pub declared_nests : (text : List ℕ) (name : Span) (ty : ValueType) (held : Option held.HeapType.HeapType) (role : Role) (f : LocalFrame) → Nests f → Nests (declares text name ty held role f)
declared_nests text name ty None role f n = record { nested = n.nested; last = n.last }
declared_nests text name ty (Some held) role f n = record {
  nested = record { all = one_more (λ k v. IfSome v.outer (λ o. o.0 < k)) f.variables _ n.nested.all (numbered (length f.variables) f.last n.last) };
  last = omega (arith, length-append {A = VariableModel});
}

pub declared_within : (text : List ℕ) (name : Span) (ty : ValueType) (held : Option held.HeapType.HeapType) (role : Role) (f : LocalFrame) (vs : List VariableModel) → Within vs (declares text name ty held role f) → Within vs f
declared_within text name ty None role f vs within = record { rest = within.rest; is = within.is }
declared_within text name ty (Some held) role f vs within = record { rest = _; is = within.is ∙ append_assoc f.variables _ within.rest }

pub grows_then : (p : ProgramText) (f g h : LocalFrame) → Grows p f g → Grows p g h → Grows p f h
grows_then p f g h first second = record {
  more = first.more ++ second.more;
  is = second.is ∙ ap (λ l. l ++ second.more) first.is ∙ append_assoc f.variables first.more second.more;
  local = each_append (IsLocal p) first.more second.more first.local second.local;
}

-- what holds of a later frame holds of an earlier one
pub within_before : (p : ProgramText) (f g : LocalFrame) (vs : List VariableModel) → Grows p f g → Within vs g → Within vs f
within_before p f g vs grows within = record { rest = grows.more ++ within.rest; is = within.is ∙ ap (λ l. l ++ within.rest) grows.is ∙ append_assoc f.variables grows.more within.rest }

-- no variable is declared
same_grows : (p : ProgramText) (f g : LocalFrame) → g.variables ≡ f.variables → Grows p f g
same_grows p f g same = record { more = []; is = same ∙ sym (append-nil f.variables); local = tt }

-- one that is no parameter is declared
held_grows : (p : ProgramText) (name : Span) (ty : ValueType) (state : Option Span) (held : Option held.HeapType.HeapType) → heap_type p ty state ≡ held → (f : LocalFrame) → Grows p f (declares p.text name ty held Local f)
held_grows p name ty state None is f = same_grows p f _ refl
held_grows p name ty state (Some held) is f = record { more = _ ∷ []; is = refl; local = (record { is = refl; ty = ty; held = record { state = state; is = is } }, tt) }

bind_grows : (p : ProgramText) (param : Option contract_nodes.MessageParameter.MessageParameter) (name : Span) (ty : Option type_nodes.Type.Type) (f : LocalFrame) → Grows p f (with_declaration p.text (bound_as p param name ty) f)
bind_grows p param name (Some t) f = held_grows p name (type_meant p t) (state_in t) (type_held p t) refl f
bind_grows p param name None f = held_grows p name (brought_type p param) None (heap_type p (brought_type p param) None) refl f

pub binds_grow : (p : ProgramText) (params : List contract_nodes.MessageParameter.MessageParameter) (binds : List made.Bind.Bind) (f : LocalFrame) → Grows p f (binds_told p params binds f).frame
binds_grow p params [] f = same_grows p f f refl
binds_grow p [] (b ∷ binds) f = grows_then p f _ _ (bind_grows p None b.name b.ty f) (binds_grow p [] binds (bind_told p None b f).frame)
binds_grow p (x ∷ params) (b ∷ binds) f = grows_then p f _ _ (bind_grows p (Some x) b.name b.ty f) (binds_grow p params binds (bind_told p (Some x) b f).frame)

bind_nests : (p : ProgramText) (param : Option contract_nodes.MessageParameter.MessageParameter) (name : Span) (ty : Option type_nodes.Type.Type) (f : LocalFrame) → Nests f → Nests (with_declaration p.text (bound_as p param name ty) f)
bind_nests p param name (Some t) f n = declared_nests p.text name (type_meant p t) (type_held p t) Local f n
bind_nests p param name None f n = declared_nests p.text name (brought_type p param) (heap_type p (brought_type p param) None) Local f n

binds_nest : (p : ProgramText) (params : List contract_nodes.MessageParameter.MessageParameter) (binds : List made.Bind.Bind) (f : LocalFrame) → Nests f → Nests (binds_told p params binds f).frame
binds_nest p params [] f n = n
binds_nest p [] (b ∷ binds) f n = binds_nest p [] binds (bind_told p None b f).frame (bind_nests p None b.name b.ty f n)
binds_nest p (x ∷ params) (b ∷ binds) f n = binds_nest p params binds (bind_told p (Some x) b f).frame (bind_nests p (Some x) b.name b.ty f n)

-- after a block, the last one in scope is the one before the block again
closed_nests : (p : ProgramText) (f after : LocalFrame) → Nests f → Grows p f after → Nests after → Nests (after_block f after)
closed_nests p f after before grows inside = record { nested = inside.nested; last = still_below f.variables grows.more after.variables f.last grows.is before.last }

module _ (p : ProgramText) (class : ℕ) where
  plain_grows : (x : PlainTree) (f : LocalFrame) → Grows p f (frame_behind p class f x)
  plain_grows (trees.Declare d) f = held_grows p d.name (type_meant p d.ty) (state_in d.ty) (type_held p d.ty) refl f
  plain_grows x f = same_grows p f _ refl

  plain_nests : (x : PlainTree) (f : LocalFrame) → Nests f → Nests (frame_behind p class f x)
  plain_nests (trees.Declare d) f n = declared_nests p.text d.name (type_meant p d.ty) (type_held p d.ty) Local f n
  plain_nests x f n = n

  mutual
    pub statement_grows : (stays : Staying) (x : StatementTree) (f : LocalFrame) → Grows p f (statement_told p class stays x f).frame
    statement_grows stays (trees.Block b) f = block_grows stays b f
    statement_grows stays (trees.Plain x) f = plain_grows x f
    statement_grows stays (trees.If first others) f = grows_then p f _ _ (test_grows stays first f) (others_grow stays others (test_told p class stays first f).frame)
    statement_grows stays (trees.While test) f = test_grows (stays_here f) test f
    statement_grows stays (trees.Switch word first cases close) f =
        grows_then p f _ _ (case_grows (in_switch stays f) (behind_case cases close.place) first f) (cases_grow (in_switch stays f) cases close.place (case_told p class (in_switch stays f) (behind_case cases close.place) first f).frame)

    pub statements_grow : (stays : Staying) (xs : StatementTrees) (f : LocalFrame) → Grows p f (statements_told p class stays xs f).frame
    statements_grow stays trees.NoStatement f = same_grows p f f refl
    statements_grow stays (trees.MoreStatements x xs) f = grows_then p f _ _ (statement_grows stays x f) (statements_grow stays xs (statement_told p class stays x f).frame)

    pub block_grows : (stays : Staying) (b : BlockTree) (f : LocalFrame) → Grows p f (block_told p class stays b f).frame
    block_grows stays (trees.Braces statements close) f = let inner = statements_grow stays statements f in record { more = inner.more; is = inner.is; local = inner.local }

    pub test_grows : (stays : Staying) (t : TestTree) (f : LocalFrame) → Grows p f (test_told p class stays t f).frame
    test_grows stays (trees.Test word left test body) f = block_grows stays body f

    pub others_grow : (stays : Staying) (others : OtherTrees) (f : LocalFrame) → Grows p f (others_told p class stays others f).frame
    others_grow stays trees.NoOther f = same_grows p f f refl
    others_grow stays (trees.Else b) f = block_grows stays b f
    others_grow stays (trees.ElseIf t others) f = grows_then p f _ _ (test_grows stays t f) (others_grow stays others (test_told p class stays t f).frame)

    pub case_grows : (stays : Staying) (behind : Place) (c : CaseTree) (f : LocalFrame) → Grows p f (case_told p class stays behind c f).frame
    case_grows stays behind (trees.Case word endpoint awaited opened binds statements) f =
        let params = awaited_params (awaited_message p f endpoint awaited) in
        let bound = (binds_told p params binds f).frame in
        let inner = grows_then p f bound _ (binds_grow p params binds f) (statements_grow stays statements bound) in
        record { more = inner.more; is = inner.is; local = inner.local }

    pub cases_grow : (stays : Staying) (cases : CaseTrees) (close : Place) (f : LocalFrame) → Grows p f (cases_told p class stays cases close f).frame
    cases_grow stays trees.NoCase close f = same_grows p f f refl
    cases_grow stays (trees.MoreCases c cases) close f = grows_then p f _ _ (case_grows stays (behind_case cases close) c f) (cases_grow stays cases close (case_told p class stays (behind_case cases close) c f).frame)

  mutual
    statement_nests : (stays : Staying) (x : StatementTree) (f : LocalFrame) → Nests f → Nests (statement_told p class stays x f).frame
    statement_nests stays (trees.Block b) f n = block_nests stays b f n
    statement_nests stays (trees.Plain x) f n = plain_nests x f n
    statement_nests stays (trees.If first others) f n = others_nest stays others (test_told p class stays first f).frame (test_nests stays first f n)
    statement_nests stays (trees.While test) f n = test_nests (stays_here f) test f n
    statement_nests stays (trees.Switch word first cases close) f n =
        let inside = in_switch stays f in
        cases_nest inside cases close.place (case_told p class inside (behind_case cases close.place) first f).frame (case_nests inside (behind_case cases close.place) first f n)

    pub statements_nest : (stays : Staying) (xs : StatementTrees) (f : LocalFrame) → Nests f → Nests (statements_told p class stays xs f).frame
    statements_nest stays trees.NoStatement f n = n
    statements_nest stays (trees.MoreStatements x xs) f n = statements_nest stays xs (statement_told p class stays x f).frame (statement_nests stays x f n)

    block_nests : (stays : Staying) (b : BlockTree) (f : LocalFrame) → Nests f → Nests (block_told p class stays b f).frame
    block_nests stays (trees.Braces statements close) f n = closed_nests p f (statements_told p class stays statements f).frame n (statements_grow stays statements f) (statements_nest stays statements f n)

    test_nests : (stays : Staying) (t : TestTree) (f : LocalFrame) → Nests f → Nests (test_told p class stays t f).frame
    test_nests stays (trees.Test word left test body) f n = block_nests stays body f n

    others_nest : (stays : Staying) (others : OtherTrees) (f : LocalFrame) → Nests f → Nests (others_told p class stays others f).frame
    others_nest stays trees.NoOther f n = n
    others_nest stays (trees.Else b) f n = block_nests stays b f n
    others_nest stays (trees.ElseIf t others) f n = others_nest stays others (test_told p class stays t f).frame (test_nests stays t f n)

    case_nests : (stays : Staying) (behind : Place) (c : CaseTree) (f : LocalFrame) → Nests f → Nests (case_told p class stays behind c f).frame
    case_nests stays behind (trees.Case word endpoint awaited opened binds statements) f n =
        let params = awaited_params (awaited_message p f endpoint awaited) in
        let bound = (binds_told p params binds f).frame in
        closed_nests p f (statements_told p class stays statements bound).frame n (grows_then p f bound _ (binds_grow p params binds f) (statements_grow stays statements bound)) (statements_nest stays statements bound (binds_nest p params binds f n))

    cases_nest : (stays : Staying) (cases : CaseTrees) (close : Place) (f : LocalFrame) → Nests f → Nests (cases_told p class stays cases close f).frame
    cases_nest stays trees.NoCase close f n = n
    cases_nest stays (trees.MoreCases c cases) close f n = cases_nest stays cases close (case_told p class stays (behind_case cases close) c f).frame (case_nests stays (behind_case cases close) c f n)
