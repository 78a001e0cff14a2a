-- Statements without mistakes are well formed, and `AreStanding` holds after them.
use Rattle.std.proofs.Common.{◌≡◌, ℕ, List, [], ◌∷◌, ◌++◌, ◌∙◌, refl, sym, subst}
use Rattle.std.specs.Option.{option_map_or}
use Rattle.std.specs.Prelude.{Option, option_map}
use Rattle.source.specs.declared.place.Place.{Place}
use Rattle.tree.specs.StatementTrees as trees
use Rattle.tree.specs.StatementTrees.{PlainTree, StatementTree, StatementTrees, BlockTree, TestTree, OtherTrees, CaseTree, CaseTrees, DeclareTree, behind_case}
use Rattle.names.specs.Bodies as bodies
use Rattle.declarations.specs.Types.{is_heap, type_meant, type_unknown}
use Rattle.names.specs.Shapes.{shape}
use Rattle.names.specs.Bodies.{Surroundings, plain_turn, block_turn, case_turn, cases_turn, others_turn, statement_turn, statements_turn, test_turn, head_of, heads_of}
use Rattle.names.specs.Cases.{Head, binds_turn, head_mistakes}
use Rattle.names.specs.Expressions.{truth_mistakes}
use Rattle.declarations.specs.Program.{ProgramText}
use Rattle.names.specs.Values.{target_mistakes, target_type, value_mistakes}
use Rattle.names.specs.Variables as names
use Rattle.resolving.specs.Binds.{binds_told}
use Rattle.resolving.specs.Types.{state_in, type_held}
use Rattle.resolving.specs.Locals.{LocalFrame, after_block, with_declaration, forget, next_number, number_of}
use Rattle.resolving.specs.Plain.{declaration_of, first_value, frame_behind, plain_told}
use Rattle.resolving.specs.Told.{awaited_message, awaited_params, block_told, case_told, cases_told, others_told, statement_told, statements_told, test_told}
use Rattle.resolving.specs.Staying.{Staying, in_switch, stays_here}
use Rattle.program.specs.Methods.{VariableModel}
use Rattle.program.specs.declared.method.Role.TheVariants as role
use Rattle.program.specs.Scopes as scopes
use Rattle.program.specs.Scopes.{GoesBack, InTurn, LeadsOut}
use Rattle.program.specs.Statements.{StatementModel}
use Rattle.program.specs.declared.number.VarId.{VarId}
use Rattle.program.specs.WellFormed as settings
use Rattle.program.specs.WellFormed.{AreCases, AreOthers, AreStatements, IsBlock, IsCase, IsStatement, IsTest, Setting, in_loop, with_last}
use Rattle.wellformed.proofs.BindLemmas.{binds_stand}
use Rattle.wellformed.proofs.BroughtLemmas.{binds_hold}
use Rattle.wellformed.proofs.CaseLemmas.{all_close, heads_clean}
use Rattle.wellformed.proofs.ExpressionLemmas.{reads_within}
use Rattle.wellformed.proofs.GrowthLemmas.{binds_grow, grows_then, cases_grow, others_grow, statements_grow, within_before}
use Rattle.wellformed.proofs.HeadLemmas.{head_fits}
use Rattle.wellformed.proofs.HeapTypeLemmas.{heap_block, held_as, type_known}
use Rattle.wellformed.proofs.ListLemmas.{both_none}
use Rattle.wellformed.proofs.ChannelLemmas.{channel_fits}
use Rattle.wellformed.proofs.ExchangeLemmas.{exchange_fits}
use Rattle.wellformed.proofs.PlainLemmas.{assign_fits, declare_fits, delete_fits}
use Rattle.wellformed.proofs.ReturnLemmas.{call_stated_fits, return_fits, start_fits}
use Rattle.wellformed.proofs.LeadLemmas.{goes_back, grown, grows_none, grows_on, leads_here, leads_then}
use Rattle.wellformed.proofs.ScopeLemmas.{closed_stands, declared_grows, declared_stands}
use Rattle.wellformed.proofs.Standing.{Around, AreStanding, AreStaying, Goes, Passes, Within, last_of, scope_of}

-- the surroundings of a statement of a method
abbrev pub InMethod : Surroundings → ℕ → Setting → Type 0
InMethod m class s = Around m.program m.class class m.result s

-- the same place with another scope, and with these staying at a break and at a continue
abbrev placed : Setting → (scope at_break at_continue : Option VarId) → Setting
placed s scope at_break at_continue = record s { scope = scope; at_break = at_break; at_continue = at_continue }

around_at : (m : Surroundings) (class : ℕ) (s : Setting) (scope at_break at_continue : Option VarId) → InMethod m class s → InMethod m class (placed s scope at_break at_continue)
around_at m class s scope at_break at_continue a = record {
  clean = a.clean;
  class_is = a.class_is;
  contracts_are = a.contracts_are;
  messages_are = a.messages_are;
  structs_are = a.structs_are;
  methods_are = a.methods_are;
  result_is = a.result_is;
  result_known = a.result_known;
  nested = a.nested;
}

-- after another statement
around_behind : (m : Surroundings) (class : ℕ) (s : Setting) (scope : Option VarId) → InMethod m class s → InMethod m class (with_last s scope)
around_behind m class s scope a = around_at m class s scope s.at_break s.at_continue a

-- what stays in scope is still outside, if the scope is the same
staying_same : (s : Setting) (f after : LocalFrame) (stays : Staying) → last_of after ≡ last_of f → AreStaying s f stays → AreStaying s after stays
staying_same s f after stays same staying = record {
  scope = staying.scope ∙ sym same;
  break_is = staying.break_is;
  continue_is = staying.continue_is;
  at_break = subst (λ o. LeadsOut s.variables o (option_map number_of stays.at_break)) (sym same) staying.at_break;
  at_continue = subst (λ o. LeadsOut s.variables o (option_map number_of stays.at_continue)) (sym same) staying.at_continue;
}

-- and if it has grown
staying_then : (s : Setting) (f after : LocalFrame) (stays : Staying) → LeadsOut s.variables (last_of after) (last_of f) → AreStaying s f stays → AreStaying (with_last s (last_of after)) after stays
staying_then s f after stays inner staying = record {
  scope = refl;
  break_is = staying.break_is;
  continue_is = staying.continue_is;
  at_break = leads_then s.variables (last_of after) (last_of f) _ inner staying.at_break;
  at_continue = leads_then s.variables (last_of after) (last_of f) _ inner staying.at_continue;
}

-- a part after which the same variables are in scope
same_frame : (p : ProgramText) (s : Setting) (X : Type 0) (f : LocalFrame) (g : names.NameFrame) → X → AreStanding p s.variables f g → Passes p s.variables X f f g
same_frame p s X f g fits standing = record { fits = fits; standing = standing; same = refl }

-- a statement that leaves the scope as it is
statement_passes : (p : ProgramText) (s : Setting) (x : StatementModel) (f after : LocalFrame) (behind : names.NameFrame) → s.scope ≡ last_of f → Passes p s.variables (IsStatement s x) f after behind
    → Goes p s.variables (IsStatement (with_last s (last_of after)) x) f after behind
statement_passes p s x f after behind here r = record {
  fits = subst (λ o. IsStatement (with_last s o) x) (here ∙ sym r.same) r.fits;
  standing = r.standing;
  grows = grows_none s.variables (last_of f) (last_of after) (sym r.same);
}

stands_still : (p : ProgramText) (s : Setting) (x : StatementModel) (f : LocalFrame) (g : names.NameFrame) → s.scope ≡ last_of f → IsStatement s x → AreStanding p s.variables f g
    → Goes p s.variables (IsStatement (with_last s (last_of f)) x) f f g
stands_still p s x f g here fits standing = statement_passes p s x f f g here (same_frame p s (IsStatement s x) f g fits standing)

-- one part, and then another
both_pass : (p : ProgramText) (vs : List VariableModel) (X Y : Type 0) (f middle after : LocalFrame) (g behind : names.NameFrame) → Passes p vs X f middle g → Passes p vs Y middle after behind → Passes p vs (X × Y) f after behind
both_pass p vs X Y f middle after g behind first second = record { fits = (first.fits, second.fits); standing = second.standing; same = second.same ∙ first.same }

-- a declaration
declaration_goes : (m : Surroundings) (class : ℕ) (s : Setting) → InMethod m class s → (d : DeclareTree) (f : LocalFrame) (g : names.NameFrame) → AreStanding m.program s.variables f g
    → Within s.variables (with_declaration m.program.text (declaration_of m.program d) f) → (bodies.declaration_turn m d g).found ≡ []
    → Goes m.program s.variables (IsStatement (with_last s (last_of (with_declaration m.program.text (declaration_of m.program d) f))) (first_value m.program class f d.name (next_number (type_held m.program d.ty) f) d.value)) f (with_declaration m.program.text (declaration_of m.program d) f) (bodies.declaration_turn m d g).frame
declaration_goes m class s around d f g standing within none =
    let p = m.program in
    let after = with_declaration m.program.text (declaration_of m.program d) f in
    let unknown = type_unknown p d.ty in
    let given = option_map_or (value_mistakes (bodies.inside_of m g) (type_meant p d.ty)) d.value [] in
    let enters = names.declared_variable p.text d.name (type_meant p d.ty) (is_heap d.ty) g in
    let parts = both_none (unknown ++ given) enters.found none in
    let first = both_none unknown given parts.0 in
    let known = type_known p d.ty first.0 in
    record {
      fits = declare_fits p m.class class m.result (with_last s (last_of after)) f g d refl (around_behind m class s (last_of after) around) standing within first.0 first.1;
      standing = declared_stands p s.variables d.name (type_meant p d.ty) (type_held p d.ty) role.Local (is_heap d.ty) f g (heap_block p d.ty first.0) known (held_as p (type_meant p d.ty) (state_in d.ty) known) standing within parts.1;
      grows = declared_grows p s.variables d.name (type_meant p d.ty) (type_held p d.ty) f within;
    }

-- a scope that has grown from that of the statement
grows_here : (s : Setting) (f : LocalFrame) (after : Option VarId) → s.scope ≡ last_of f → scopes.Grows s.variables (last_of f) after → scopes.Grows s.variables s.scope after
grows_here s f after here grows = subst (λ o. scopes.Grows s.variables o after) (sym here) grows

-- what a `break` or a `continue` leaves in scope
left_fits : (s : Setting) (f : LocalFrame) (place : Place) (to : Option VarId) (stays : Option ℕ) → s.scope ≡ last_of f → to ≡ option_map number_of stays
    → LeadsOut s.variables (last_of f) (option_map number_of stays) → GoesBack s.scope to (forget place stays f.last)
left_fits s f place to stays here is leads =
    subst (λ o. GoesBack o to (forget place stays f.last)) (sym here) (subst (λ o. GoesBack (last_of f) o (forget place stays f.last)) (sym is) (goes_back s.variables place stays f.last leads))

-- a scope that goes back to that of the statement
back_here : (s : Setting) (f last : LocalFrame) (place : Place) → s.scope ≡ last_of f → LeadsOut s.variables (last_of last) (last_of f) → GoesBack (last_of last) s.scope (forget place f.last last.last)
back_here s f last place here leads = subst (λ o. GoesBack (last_of last) o (forget place f.last last.last)) (sym here) (goes_back s.variables place f.last last.last leads)

-- a statement that holds no others
plain_goes : (m : Surroundings) (class : ℕ) (s : Setting) → InMethod m class s → (stays : Staying) (x : PlainTree) (f : LocalFrame) (g : names.NameFrame)
    → AreStanding m.program s.variables f g → AreStaying s f stays → Within s.variables (frame_behind m.program class f x) → (plain_turn m x g).found ≡ []
    → Goes m.program s.variables (IsStatement (with_last s (last_of (frame_behind m.program class f x))) (plain_told m.program class f stays x)) f (frame_behind m.program class f x) (plain_turn m x g).frame
plain_goes m class s around stays (trees.Declare d) f g standing staying within none = declaration_goes m class s around d f g standing within none
plain_goes m class s around stays (trees.Assign a) f g standing staying within none =
    let both = both_none (target_mistakes (scope_of m.program g) a.target) (value_mistakes (bodies.inside_of m g) (target_type (scope_of m.program g) a.target) a.value) none in
    stands_still m.program s (plain_told m.program class f stays (trees.Assign a)) f g staying.scope (assign_fits m.program m.class class m.result s f g a.target a.value around staying.scope standing both.0 both.1) standing
plain_goes m class s around stays (trees.Call c) f g standing staying within none = stands_still m.program s (plain_told m.program class f stays (trees.Call c)) f g staying.scope (call_stated_fits m.program m.class class m.result s f g c around standing none) standing
plain_goes m class s around stays (trees.Start word c) f g standing staying within none = stands_still m.program s (plain_told m.program class f stays (trees.Start word c)) f g staying.scope (start_fits m.program m.class class m.result s f g c word around standing none) standing
plain_goes m class s around stays (trees.Delete name) f g standing staying within none = stands_still m.program s (plain_told m.program class f stays (trees.Delete name)) f g staying.scope (tt, delete_fits m.program s f g standing name) standing
plain_goes m class s around stays (trees.Exchange e) f g standing staying within none = stands_still m.program s (plain_told m.program class f stays (trees.Exchange e)) f g staying.scope (tt, exchange_fits m.program m.class class m.result s f g e around staying.scope standing none) standing
plain_goes m class s around stays (trees.NewChannel n) f g standing staying within none = stands_still m.program s (plain_told m.program class f stays (trees.NewChannel n)) f g staying.scope (tt, channel_fits m.program m.class class m.result s f g n around staying.scope standing none) standing
plain_goes m class s around stays (trees.Break word) f g standing staying within none =
    stands_still m.program s (plain_told m.program class f stays (trees.Break word)) f g staying.scope (tt, left_fits s f word.place s.at_break stays.at_break staying.scope staying.break_is staying.at_break) standing
plain_goes m class s around stays (trees.Continue word) f g standing staying within none =
    stands_still m.program s (plain_told m.program class f stays (trees.Continue word)) f g staying.scope (tt, left_fits s f word.place s.at_continue stays.at_continue staying.scope staying.continue_is staying.at_continue) standing
plain_goes m class s around stays (trees.Return word value) f g standing staying within none =
    stands_still m.program s (plain_told m.program class f stays (trees.Return word value)) f g staying.scope (return_fits m.program m.class class m.result s f g word value around standing staying.scope none) standing

mutual
  pub statement_goes : (m : Surroundings) (class : ℕ) (s : Setting) → InMethod m class s → (stays : Staying) (x : StatementTree) (f : LocalFrame) (g : names.NameFrame)
      → AreStanding m.program s.variables f g → AreStaying s f stays → Within s.variables (statement_told m.program class stays x f).frame → (statement_turn m x g).found ≡ []
      → Goes m.program s.variables (IsStatement (with_last s (last_of (statement_told m.program class stays x f).frame)) (statement_told m.program class stays x f).what) f (statement_told m.program class stays x f).frame (statement_turn m x g).frame
  statement_goes m class s around stays (trees.Block b) f g standing staying within none =
      let r = block_goes m class s around stays b f g standing staying within none in
      statement_passes m.program s (statement_told m.program class stays (trees.Block b) f).what f (block_told m.program class stays b f).frame _ staying.scope (record { fits = r.fits; standing = r.standing; same = r.same })
  statement_goes m class s around stays (trees.Plain x) f g standing staying within none = plain_goes m class s around stays x f g standing staying within none
  statement_goes m class s around stays (trees.If first others) f g standing staying within none =
      let p = m.program in
      let middle = (test_told p class stays first f).frame in
      let next = (test_turn m first g).frame in
      let after = (others_told p class stays others middle).frame in
      let both = both_none (test_turn m first g).found (others_turn m others next).found none in
      let one = test_goes m class s around stays first f g standing staying (within_before p middle after s.variables (others_grow p class stays others middle) within) both.0 in
      let two = others_go m class s around stays others middle next one.standing (staying_same s f middle stays one.same staying) within both.1 in
      statement_passes p s (statement_told p class stays (trees.If first others) f).what f after _ staying.scope (both_pass p s.variables _ _ f middle after next _ one two)
  statement_goes m class s around stays (trees.While test) f g standing staying within none =
      let inside : AreStaying (in_loop s) f (stays_here f) =
      record { scope = staying.scope; break_is = staying.scope; continue_is = staying.scope; at_break = leads_here s.variables (last_of f); at_continue = leads_here s.variables (last_of f) } in
      let r = test_goes (bodies.in_loop m) class (in_loop s) (around_at m class s s.scope s.scope s.scope around) (stays_here f) test f g standing inside within none in
      statement_passes m.program s (statement_told m.program class stays (trees.While test) f).what f (test_told m.program class (stays_here f) test f).frame _ staying.scope (record { fits = r.fits; standing = r.standing; same = r.same })
  statement_goes m class s around stays (trees.Switch word first cases close) f g standing staying within none =
      let p = m.program in
      let inside = in_switch stays f in
      let t = settings.in_switch s in
      let surrounds = around_at m class s s.scope s.scope s.at_continue around in
      let here : AreStaying t f inside =
      record { scope = staying.scope; break_is = staying.scope; continue_is = staying.continue_is; at_break = leads_here s.variables (last_of f); at_continue = staying.at_continue } in
      let all = head_of first ∷ heads_of cases in
      let middle = (case_told p class inside (behind_case cases close.place) first f).frame in
      let next = (case_turn (bodies.in_switch m) all [] first g).frame in
      let after = (cases_told p class inside cases close.place middle).frame in
      let both = both_none (case_turn (bodies.in_switch m) all [] first g).found (cases_turn (bodies.in_switch m) all (head_of first ∷ []) cases next).found none in
      let one = case_goes (bodies.in_switch m) class t surrounds inside (behind_case cases close.place) all [] first f g standing here (within_before p middle after s.variables (cases_grow p class inside cases close.place middle) within) both.0 in
      let two = cases_go (bodies.in_switch m) class t surrounds inside close.place all (head_of first ∷ []) cases middle next one.standing (staying_same t f middle inside one.same here) within both.1 in
      let clean = heads_clean (bodies.in_switch m) all [] (trees.MoreCases first cases) g none in
      let cases_fit = both_pass p s.variables _ _ f middle after next _ one two in
      statement_passes p s (statement_told p class stays (trees.Switch word first cases close) f).what f after _ staying.scope
      (record { fits = (all_close p class s.variables inside first cases close.place f g standing clean, cases_fit.fits); standing = cases_fit.standing; same = cases_fit.same })

  pub statements_go : (m : Surroundings) (class : ℕ) (s : Setting) → InMethod m class s → (stays : Staying) (xs : StatementTrees) (f : LocalFrame) (g : names.NameFrame)
      → AreStanding m.program s.variables f g → AreStaying s f stays → Within s.variables (statements_told m.program class stays xs f).frame → (statements_turn m xs g).found ≡ []
      → Goes m.program s.variables (AreStatements s (statements_told m.program class stays xs f).what (last_of (statements_told m.program class stays xs f).frame)) f (statements_told m.program class stays xs f).frame (statements_turn m xs g).frame
  statements_go m class s around stays trees.NoStatement f g standing staying within none =
      let none_more = grows_none s.variables (last_of f) (last_of f) refl in
      record { fits = grows_here s f (last_of f) staying.scope none_more; standing = standing; grows = none_more }
  statements_go m class s around stays (trees.MoreStatements x xs) f g standing staying within none =
      let p = m.program in
      let vs = s.variables in
      let middle = (statement_told p class stays x f).frame in
      let next = (statement_turn m x g).frame in
      let after = (statements_told p class stays xs middle).frame in
      let both = both_none (statement_turn m x g).found (statements_turn m xs next).found none in
      let one = statement_goes m class s around stays x f g standing staying (within_before p middle after vs (statements_grow p class stays xs middle) within) both.0 in
      let further = staying_then s f middle stays (grown vs (last_of f) (last_of middle) one.grows) staying in
      let two = statements_go m class (with_last s (last_of middle)) (around_behind m class s (last_of middle) around) stays xs middle next one.standing further within both.1 in
      record {
        fits = (last_of middle, (grows_here s f (last_of middle) staying.scope one.grows, (one.fits, two.fits)));
        standing = two.standing;
        grows = grows_on vs (last_of f) (last_of middle) (last_of after) one.grows two.grows;
      }

  block_goes : (m : Surroundings) (class : ℕ) (s : Setting) → InMethod m class s → (stays : Staying) (b : BlockTree) (f : LocalFrame) (g : names.NameFrame)
      → AreStanding m.program s.variables f g → AreStaying s f stays → Within s.variables (block_told m.program class stays b f).frame → (block_turn m b g).found ≡ []
      → Passes m.program s.variables (IsBlock s (block_told m.program class stays b f).what) f (block_told m.program class stays b f).frame (block_turn m b g).frame
  block_goes m class s around stays (trees.Braces statements close) f g standing staying within none =
      let p = m.program in
      let last = (statements_told p class stays statements f).frame in
      let inside : Within s.variables last = record { rest = within.rest; is = within.is } in
      let r = statements_go m class s around stays statements f g standing staying inside none in
      record {
        fits = (last_of last, (r.fits, back_here s f last close.place staying.scope (grown s.variables (last_of f) (last_of last) r.grows)));
        standing = closed_stands p s.variables f last g _ standing (statements_grow p class stays statements f) r.standing;
        same = refl;
      }

  test_goes : (m : Surroundings) (class : ℕ) (s : Setting) → InMethod m class s → (stays : Staying) (t : TestTree) (f : LocalFrame) (g : names.NameFrame)
      → AreStanding m.program s.variables f g → AreStaying s f stays → Within s.variables (test_told m.program class stays t f).frame → (test_turn m t g).found ≡ []
      → Passes m.program s.variables (IsTest s (test_told m.program class stays t f).what) f (test_told m.program class stays t f).frame (test_turn m t g).frame
  test_goes m class s around stays (trees.Test word left test body) f g standing staying within none =
      let both = both_none (truth_mistakes (scope_of m.program g) (shape test)) (block_turn m body g).found none in
      let r = block_goes m class s around stays body f g standing staying within both.1 in
      record { fits = (reads_within m.program s.variables f g standing test, r.fits); standing = r.standing; same = r.same }

  others_go : (m : Surroundings) (class : ℕ) (s : Setting) → InMethod m class s → (stays : Staying) (others : OtherTrees) (f : LocalFrame) (g : names.NameFrame)
      → AreStanding m.program s.variables f g → AreStaying s f stays → Within s.variables (others_told m.program class stays others f).frame → (others_turn m others g).found ≡ []
      → Passes m.program s.variables (AreOthers s (others_told m.program class stays others f).what) f (others_told m.program class stays others f).frame (others_turn m others g).frame
  others_go m class s around stays trees.NoOther f g standing staying within none = same_frame m.program s _ f g tt standing
  others_go m class s around stays (trees.Else b) f g standing staying within none =
      let r = block_goes m class s around stays b f g standing staying within none in
      record { fits = r.fits; standing = r.standing; same = r.same }
  others_go m class s around stays (trees.ElseIf t others) f g standing staying within none =
      let p = m.program in
      let middle = (test_told p class stays t f).frame in
      let next = (test_turn m t g).frame in
      let after = (others_told p class stays others middle).frame in
      let both = both_none (test_turn m t g).found (others_turn m others next).found none in
      let one = test_goes m class s around stays t f g standing staying (within_before p middle after s.variables (others_grow p class stays others middle) within) both.0 in
      let two = others_go m class s around stays others middle next one.standing (staying_same s f middle stays one.same staying) within both.1 in
      both_pass p s.variables _ _ f middle after next _ one two

  case_goes : (m : Surroundings) (class : ℕ) (s : Setting) → InMethod m class s → (stays : Staying) (behind : Place) (all before : List Head) (c : CaseTree) (f : LocalFrame) (g : names.NameFrame)
      → AreStanding m.program s.variables f g → AreStaying s f stays → Within s.variables (case_told m.program class stays behind c f).frame → (case_turn m all before c g).found ≡ []
      → Passes m.program s.variables (IsCase s (case_told m.program class stays behind c f).what) f (case_told m.program class stays behind c f).frame (case_turn m all before c g).frame
  case_goes m class s around stays behind all before (trees.Case word endpoint awaited left binds statements) f g standing staying within none =
      let p = m.program in
      let h : Head = record { endpoint = endpoint; awaited = awaited; binds = binds } in
      let params = awaited_params (awaited_message p f endpoint awaited) in
      let bound = binds_told p params binds f in
      let last = (statements_told p class stays statements bound.frame).frame in
      let both = both_none (head_mistakes (scope_of p g) all before h) (names.follow (binds_turn p (bodies.params_of_case (scope_of p g) h) binds g) (statements_turn m statements)).found none in
      let fits = head_fits p m.class class m.result s f g all before h around standing both.0 in
      let inside : Within s.variables last = record { rest = within.rest; is = within.is } in
      let clean = subst (λ x. (names.follow (binds_turn p x binds g) (statements_turn m statements)).found ≡ []) (sym fits.params) both.1 in
      let halves = both_none (binds_turn p params binds g).found (statements_turn m statements (binds_turn p params binds g).frame).found clean in
      let opened = binds_stand p s.variables params binds f g standing (within_before p bound.frame last s.variables (statements_grow p class stays statements bound.frame) inside) fits.known fits.many halves.0 in
      let holds = binds_hold p s params binds f g (within_before p bound.frame last s.variables (statements_grow p class stays statements bound.frame) inside) fits.known fits.many halves.0 in
      let opens = staying_then s f bound.frame stays opened.inner staying in
      let r = statements_go m class (with_last s (last_of bound.frame)) (around_behind m class s (last_of bound.frame) around) stays statements bound.frame (binds_turn p params binds g).frame opened.standing opens inside halves.1 in
      let down = leads_then s.variables (last_of last) (last_of bound.frame) (last_of f) (grown s.variables (last_of bound.frame) (last_of last) r.grows) opened.inner in
      let grown_since = grows_then p f bound.frame last (binds_grow p params binds f) (statements_grow p class stays statements bound.frame) in
      let closes = closed_stands p s.variables f last g (statements_turn m statements (binds_turn p params binds g).frame).frame standing grown_since r.standing in
      let turn = subst (λ o. InTurn s.variables o bound.what (last_of bound.frame)) (sym staying.scope) opened.turn in
      record {
        fits = ((fits.end, fits.brings bound.what holds), (last_of bound.frame, last_of last, (turn, (r.fits, back_here s f last behind staying.scope down))));
        standing = subst (λ x. AreStanding p s.variables (after_block f last) (record { variables = g.variables; heap = (statements_turn m statements (binds_turn p x binds g).frame).frame.heap })) fits.params closes;
        same = refl;
      }

  cases_go : (m : Surroundings) (class : ℕ) (s : Setting) → InMethod m class s → (stays : Staying) (close : Place) (all before : List Head) (cases : CaseTrees) (f : LocalFrame) (g : names.NameFrame)
      → AreStanding m.program s.variables f g → AreStaying s f stays → Within s.variables (cases_told m.program class stays cases close f).frame → (cases_turn m all before cases g).found ≡ []
      → Passes m.program s.variables (AreCases s (cases_told m.program class stays cases close f).what) f (cases_told m.program class stays cases close f).frame (cases_turn m all before cases g).frame
  cases_go m class s around stays close all before trees.NoCase f g standing staying within none = same_frame m.program s _ f g tt standing
  cases_go m class s around stays close all before (trees.MoreCases c cases) f g standing staying within none =
      let p = m.program in
      let middle = (case_told p class stays (behind_case cases close) c f).frame in
      let next = (case_turn m all before c g).frame in
      let after = (cases_told p class stays cases close middle).frame in
      let both = both_none (case_turn m all before c g).found (cases_turn m all (before ++ head_of c ∷ []) cases next).found none in
      let one = case_goes m class s around stays (behind_case cases close) all before c f g standing staying (within_before p middle after s.variables (cases_grow p class stays cases close middle) within) both.0 in
      let two = cases_go m class s around stays close all (before ++ head_of c ∷ []) cases middle next one.standing (staying_same s f middle stays one.same staying) within both.1 in
      both_pass p s.variables _ _ f middle after next _ one two
