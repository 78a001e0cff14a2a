-- A variable that is not in scope at a reached pair has nothing there.
use Rattle.std.proofs.Common.{◌≡◌, ◌==◌, ◌&&◌, ℕ, Bool, true, false, not, List, [], ◌∷◌, ◌++◌, Some, None, map, refl, sym, ap, ◌∙◌, subst}
use Rattle.std.proofs.Common.{⊎_elim, set, eqb-true}
use Rattle.std.proofs.lemmas.Bool.{cases_Bool}
use Rattle.std.proofs.lemmas.Option.{slice_get-map}
use Rattle.std.specs.Option.{option_map}
use Rattle.std.specs.Prelude.{Option, flat_map, ◌||◌, slice_get, if◌then◌else◌, IfSome}
use Rattle.source.specs.declared.place.Place.{Place}
use Rattle.program.specs.Lists.{Each, is_among}
use Rattle.program.specs.Methods.{MethodModel, VariableModel}
use Rattle.program.specs.Programs.{ProgramModel}
use Rattle.program.specs.WellFormed.{is_parameter}
use Rattle.program.specs.declared.call.Argument.{Argument}
use Rattle.program.specs.declared.contract.Edge.{Edge}
use Rattle.program.specs.declared.types.HeapType.{HeapType}
use Rattle.program.specs.declared.method.Role.TheVariants as role
use Rattle.program.specs.declared.method.Role.{Role}
use Rattle.program.specs.declared.number.VarId.{VarId}
use Rattle.program.specs.declared.statement.Awaited.TheVariants.{Message, Closed}
use Rattle.program.specs.declared.statement.Awaited.{Awaited}
use Rattle.program.specs.declared.statement.Mention.{Mention}
use Rattle.flow.specs.Cases.{EntranceModel, first_mentions, case_for, awaits}
use Rattle.program.specs.declared.statement.Action.TheVariants.{Use, Move, Delete, Exchange, NewChannel}
use Rattle.flow.specs.Graphs.{Instruction, Act, New, Send, Switch, Branch, Forget, Call, Start}
use Rattle.flow.specs.Graphs.{Return, Stop}
use Rattle.flow.specs.Lowering.{graph_of}
use Rattle.flow.specs.declared.graph.Branches.TheVariants.{Either, Only}
use Rattle.rules.specs.Arguments.{all_arguments, all_fields, all_payloads, after_claims, field_checks, given_leaf, lacks_edge, payload}
use Rattle.rules.specs.Arguments.{sent_leaf, target_checks}
use Rattle.rules.specs.Endpoints.{payload_types, declared_leaf, fields_of, result_of, first_state, parameter_types, type_of}
use Rattle.rows.specs.Leaves.{is_something}
use Rattle.rules.specs.Mentions.{is_lent, is_kept, require_owned, given_back, require_not_lent, require_empty, require_another}
use Rattle.rules.specs.Outcomes.{Goes, Pair, breach_at, refuse_if}
use Rattle.rules.proofs.StepLemmas.{said_goes}
use Rattle.rows.specs.Rows.{leaf_at, leaf_or_nothing, is_owned}
use Rattle.rules.specs.RuleTable.{after_exchange, instruction_outcome, value_checks, back_checks}
use Rattle.rules.specs.Scopes.{declared_between}
use Rattle.rules.specs.Steps.{outcome, step_at, entry_of, method_entry, method_outcome, point_outcome, entry_leaf}
use Rattle.rules.specs.Switches.{bound_leaves, pair_at, receive_pairs, close_pairs, awaited_edges, comes_at, switch_checks, switch_pairs}
use Rattle.rules.specs.Breaches.{breach_in}
use Rattle.rules.specs.declared.breach.Reason.TheVariants.{NotSent}
use Rattle.rows.specs.declared.row.Leaf.TheVariants as leaf
use Rattle.rows.specs.declared.row.Leaf.{Leaf}
use Rattle.analyse.specs.Reach.{StepsTo, IsPath, Reached}
use Rattle.sound.specs.GraphFit.{IsGraphFit, IsFit, KeepsScope, IsEntrance, IsBoundAt, AreBrought}
use Rattle.sound.proofs.Checks.{Passed, checked_passed, goes_same, leaf_set_other, not_refused, passed_left, row_set_still, row_still}
use Rattle.sound.proofs.Checks.{something_is}
use Rattle.sound.proofs.Lists.{each_all, each_append, each_contains, each_flat, each_map, not_false}
use Rattle.sound.proofs.Parameters.{field_known}
use Rattle.machine.proofs.ChangeLemmas.{true≢false}

-- the case that is found is one of the cases
pub case_is : (P : EntranceModel → Type 0) (cases : List EntranceModel) (v : ℕ) (n : Option ℕ) (c : EntranceModel) → Each P cases
    → case_for cases v n ≡ Some c → P c × (c.endpoint.variable.0 ≡ v) × (awaits c.awaited n ≡ true)
case_is P [] v n c h e = absurd (cc)
case_is P (x ∷ cases) v n c h e = by (x.endpoint.variable.0 == v) (awaits x.awaited n) refl refl e (λ k. case_is P cases v n c h.1 k)
  where
    by : (a b : Bool) → (x.endpoint.variable.0 == v) ≡ a → awaits x.awaited n ≡ b
        → (if a && b then Some x else case_for cases v n) ≡ Some c
        → (case_for cases v n ≡ Some c → P c × (c.endpoint.variable.0 ≡ v) × (awaits c.awaited n ≡ true))
        → P c × (c.endpoint.variable.0 ≡ v) × (awaits c.awaited n ≡ true)
    by true true i j k more = let same : x ≡ c =
        cc in (
          subst P same h.0,
          ap (λ (z : EntranceModel). z.endpoint.variable.0) (sym same)
              ∙ eqb-true x.endpoint.variable.0 v i,
          ap (λ (z : EntranceModel). awaits z.awaited n) (sym same) ∙ j,
        )
    by true false i j k more = more k
    by false b i j k more = more k

pub passed_owned : (row : List Leaf) (es : List Mention) → Passed (map (require_owned row) es)
    → Each (λ e. is_owned row e.variable.0 ≡ true) es
passed_owned row [] h = tt
passed_owned row (e ∷ es) h =
    (not_false (is_owned row e.variable.0) (not_refused (not (is_owned row e.variable.0)) _ h.0), passed_owned row es h.1)

back_none : (m : MethodModel) (row : List Leaf) (place : Place) (gone : List ℕ) (v : ℕ) → Each (λ v. is_lent m v ≡ false) gone
    → Passed (given_back m row place None gone) → is_among gone v ≡ true → leaf_at row v ≡ leaf.Nothing
back_none m row place [] v own h has = absurd (cc)
back_none m row place (u ∷ gone) v own h has = ⊎_elim
    (λ e. let k : is_kept m row None u ≡ false = not_refused (is_kept m row None u) _ h.0 in
    let z : is_owned row u ≡ false = sym (ap (λ (b : Bool). not b && is_owned row u) own.0) ∙ k in
    ap (leaf_at row) (sym (eqb-true u v e)) ∙ something_is (leaf_at row u) z)
    (λ n. back_none m row place gone v own.1 h.1 (sym (ap (λ (b : Bool). b || is_among gone v) n) ∙ has)) (cases_Bool (u == v))

module _ (p : ProgramModel) (m : MethodModel) (scope : (point variable : ℕ) → Bool) where
  -- a variable out of scope has nothing
  abbrev NoneOut : Pair → Type 0
  NoneOut x = (v : ℕ) → scope x.0 v ≡ false → leaf_at x.1 v ≡ leaf.Nothing

  keeps : (from to : ℕ) (row : List Leaf) (gone : List ℕ) → KeepsScope scope from to gone → NoneOut (from, row)
      → ((v : ℕ) → is_among gone v ≡ true → leaf_at row v ≡ leaf.Nothing) → NoneOut (to, row)
  keeps from to row gone k h left v out =
      ⊎_elim (λ inside. ⊎_elim (λ still. absurd (true≢false still out)) (λ g. left v g) (k.each v inside)) (λ outside. h v outside)
      (cases_Bool (scope from v))

  keeps_all : (from to : ℕ) (row : List Leaf) → KeepsScope scope from to [] → NoneOut (from, row) → NoneOut (to, row)
  keeps_all from to row k h = keeps from to row [] k h (λ v e. absurd (true≢false e refl))

  set_in : (to : ℕ) (row : List Leaf) (t : ℕ) (l : Leaf) → scope to t ≡ true → NoneOut (to, row) → NoneOut (to, set row t l)
  set_in to row t l inside h v out = leaf_set_other row t v l (λ e. true≢false inside (ap (scope to) (sym e) ∙ out)) ∙ h v out

  set_nothing : (to : ℕ) (row : List Leaf) (t : ℕ) → NoneOut (to, row) → NoneOut (to, set row t leaf.Nothing)
  set_nothing to row t h v out = row_set_still row t v (h v out)

  claimed_out : (to : ℕ) (row : List Leaf) (arguments : List Argument) → NoneOut (to, row) → NoneOut (to, after_claims row arguments)
  claimed_out to row arguments h v out = row_still row arguments v (h v out)

  -- a variable that has something is in scope, and remains so
  owned_in : (from to v : ℕ) (row : List Leaf) → KeepsScope scope from to [] → NoneOut (from, row) → is_owned row v ≡ true → scope to v ≡ true
  owned_in from to v row k h owned =
      ⊎_elim (λ inside. ⊎_elim (λ still. still) (λ g. absurd (true≢false g refl)) (k.each v inside))
      (λ out. absurd (true≢false owned (ap is_something (h v out)))) (cases_Bool (scope from v))

  given_in : (to : ℕ) (row : List Leaf) (k : Option HeapType) (target : Option Mention) → IfSome target (λ v. scope to v.variable.0 ≡ true)
      → NoneOut (to, row) → NoneOut (to, given_leaf row k target)
  given_in to row None target inside h = h
  given_in to row (Some k) None inside h = h
  given_in to row (Some k) (Some v) inside h = set_in to row v.variable.0 (declared_leaf k) inside h

  bound_in : (from to : ℕ) (row : List Leaf) (bound : List VarId) (types : List HeapType) → Each (λ v. IsBoundAt p m scope from to v.0) bound
      → NoneOut (to, row) → NoneOut (to, bound_leaves row bound types)
  bound_in from to row [] types b h = h
  bound_in from to row (v ∷ bound) [] b h = h
  bound_in from to row (v ∷ bound) (k ∷ types) b h =
      bound_in from to (set row v.0 (declared_leaf k)) bound types b.1 (set_in to row v.0 (declared_leaf k) b.0.after h)

  received_in : (from : ℕ) (row : List Leaf) (cases : List EntranceModel) (e : ℕ) (d : Edge) → NoneOut (from, row)
      → Each (IsEntrance p m scope from) cases → is_owned row e ≡ true → Each NoneOut (receive_pairs p m row cases e d)
  received_in from row cases e d h fits owned = by (case_for cases e (Some d.message.0)) refl
    where
      binds_at : (a : Awaited) (c : EntranceModel) → c.awaited ≡ a → IsEntrance p m scope from c → awaits a (Some d.message.0) ≡ true
          → Each (λ v. IsBoundAt p m scope from c.next v.0) c.targets
      binds_at (Message id) c is k e = (subst (λ (a : Awaited). AreBrought p m scope from a c.targets c.next) is k.binds).1.1
      binds_at Closed c is k e = absurd (true≢false e refl)

      by : (x : Option EntranceModel) → case_for cases e (Some d.message.0) ≡ x
          → Each NoneOut (pair_at x (λ c. bound_leaves (set row e (leaf.State d.to.0)) c.targets (payload_types p d.message.0)))
      by None is = tt
      by (Some c) is =
          let k = case_is (IsEntrance p m scope from) cases e (Some d.message.0) c fits is in (
            bound_in from c.next (set row e (leaf.State d.to.0)) c.targets (payload_types p d.message.0) (binds_at c.awaited c refl k.0 k.2)
                (set_in c.next row e (leaf.State d.to.0) (owned_in from c.next e row k.0.keeps h owned)
                (keeps_all from c.next row k.0.keeps h)),
            tt,
          )

  closed_in : (from : ℕ) (row : List Leaf) (cases : List EntranceModel) (e : ℕ) → NoneOut (from, row)
      → Each (IsEntrance p m scope from) cases
      → is_owned row e ≡ true → Each NoneOut (close_pairs p m row cases e)
  closed_in from row cases e h fits owned = by (case_for cases e None) refl
    where
      by : (x : Option EntranceModel) → case_for cases e None ≡ x → Each NoneOut (pair_at x (λ c. set row e leaf.CutOff))
      by None is = tt
      by (Some c) is =
          let k = case_is (IsEntrance p m scope from) cases e None c fits is in
          (set_in c.next row e leaf.CutOff (owned_in from c.next e row k.0.keeps h owned) (keeps_all from c.next row k.0.keeps h), tt)

  comes_in : (from : ℕ) (row : List Leaf) (cases : List EntranceModel) (e : Mention) → NoneOut (from, row)
      → Each (IsEntrance p m scope from) cases
      → is_owned row e.variable.0 ≡ true → Each NoneOut (comes_at p m row cases e)
  comes_in from row cases e h fits owned =
      each_append NoneOut (flat_map (receive_pairs p m row cases e.variable.0) (awaited_edges p m row e)) (close_pairs p m row cases e.variable.0)
      (each_flat NoneOut (receive_pairs p m row cases e.variable.0) (awaited_edges p m row e)
      (each_all (λ d. Each NoneOut (receive_pairs p m row cases e.variable.0 d)) (awaited_edges p m row e)
      (λ d. received_in from row cases e.variable.0 d h fits owned)))
      (closed_in from row cases e.variable.0 h fits owned)

  -- after each step a variable out of scope has nothing
  step_in : (from : ℕ) (row : List Leaf) (i : Instruction) (all : List Pair) → IsFit p m scope from i → NoneOut (from, row)
      → instruction_outcome p m i row ≡ Goes all → Each NoneOut all
  step_in from row (Act (Use v) next) all fit h e = let k =
      checked_passed (require_owned row v ∷ []) ((next, row) ∷ []) all e in subst (λ ps. Each NoneOut ps) k.1
      (keeps_all from next row fit h, tt)
  step_in from row (New v arguments next) all fit h e =
      let given = map payload arguments in
      let k = checked_passed (all_fields m row (fields_of p m v.variable.0) given ++ target_checks m (after_claims row given) (Some v))
      ((next, set (after_claims row given) v.variable.0 leaf.Block) ∷ []) all e in
      subst (λ ps. Each NoneOut ps) k.1 (
        set_in next (after_claims row given) v.variable.0 leaf.Block fit.in_scope
            (claimed_out next row given (keeps_all from next row fit.keeps h)),
        tt,
      )
  step_in from row (Act (Exchange x) next) all fit h e =
      let ty = field_known m p x.holder.variable.0 x.field fit.holder fit.holder_there ∙ fit.field_there in
      let l = declared_leaf fit.ty in
      let k = checked_passed
      (require_another x.holder x.given ∷ require_owned row x.holder ∷ field_checks m row fit.ty (payload x.given))
      ((next, set row x.given.variable.0 l) ∷ []) all (sym (ap (λ (o : Option HeapType). after_exchange p m row x next o) ty) ∙ e) in
      subst (λ ps. Each NoneOut ps) k.1
      (set_in next row x.given.variable.0 l fit.in_scope (keeps_all from next row fit.keeps h), tt)
  step_in from row (Act (Move v u) next) all fit h e =
      let k = checked_passed (require_another v u ∷ require_not_lent m u ∷ require_owned row u ∷ require_not_lent m v ∷ require_empty row v ∷ [])
      ((next, set (set row v.variable.0 (leaf_at row u.variable.0)) u.variable.0 leaf.Nothing) ∷ []) all e in
      subst (λ ps. Each NoneOut ps) k.1 (
        set_nothing next (set row v.variable.0 (leaf_at row u.variable.0)) u.variable.0
            (set_in next row v.variable.0 (leaf_at row u.variable.0) fit.in_scope (keeps_all from next row fit.keeps h)),
        tt,
      )
  step_in from row (Act (Delete v) next) all fit h e = let k =
      checked_passed (require_not_lent m v ∷ require_owned row v ∷ [])
      ((next, set row v.variable.0 leaf.Nothing) ∷ []) all e in subst (λ ps. Each NoneOut ps) k.1
      (set_nothing next row v.variable.0 (keeps_all from next row fit h), tt)
  step_in from row (Act (NewChannel c) next) all fit h e =
      let k = checked_passed (require_not_lent m c.first ∷ require_empty row c.first ∷ require_not_lent m c.second ∷ require_empty row c.second
      ∷ []) ((
        next,
        set (set row c.first.variable.0 (leaf.State (first_state p c.contract.0))) c.second.variable.0
            (leaf.State (first_state p c.contract.0)),
      ) ∷ []) all e in
      let l = leaf.State (first_state p c.contract.0) in
      subst (λ ps. Each NoneOut ps) k.1 (
        set_in next (set row c.first.variable.0 l) c.second.variable.0 l fit.second_scope
            (set_in next row c.first.variable.0 l fit.first_scope (keeps_all from next row fit.keeps h)),
        tt,
      )
  step_in from row (Send place e message payloads next) all fit h eq =
      let ty = type_of m e.variable.0 in
      let l = leaf_at row e.variable.0 in
      let k =
      checked_passed
      (require_owned row e
      ∷ (all_payloads m row e.variable message (payload_types p message.0) (map payload payloads)
      ++ refuse_if (lacks_edge p ty message.0 l) (breach_at place (NotSent e.variable message)) ∷ []))
      ((next, set (after_claims row (map payload payloads)) e.variable.0 (sent_leaf p ty message.0 l)) ∷ []) all eq
      in
      let owned = not_false (is_owned row e.variable.0) (not_refused (not (is_owned row e.variable.0)) _ k.0.0) in
      subst (λ ps. Each NoneOut ps) k.1 (
        set_in next (after_claims row (map payload payloads)) e.variable.0 (sent_leaf p ty message.0 l)
            (owned_in from next e.variable.0 row fit.keeps h owned)
            (claimed_out next row (map payload payloads) (keeps_all from next row fit.keeps h)),
        tt,
      )
  step_in from row (Switch place cases) all fit h e =
      let k = checked_passed (switch_checks p m row place cases) (switch_pairs p m row cases) all e in
      let owned = passed_owned row (first_mentions [] cases) (passed_left (map (require_owned row) (first_mentions [] cases)) _ k.0) in
      subst (λ ps. Each NoneOut ps) k.1
      (each_flat NoneOut (comes_at p m row cases) (first_mentions [] cases)
      (each_map (λ x. is_owned row x.variable.0 ≡ true) (λ x. Each NoneOut (comes_at p m row cases x)) (first_mentions [] cases)
      (λ x o. comes_in from row cases x h fit.each o) owned))
  step_in from row (Branch place (Only point)) all fit h e =
      subst (λ ps. Each NoneOut ps) (goes_same ((point, row) ∷ []) all e) (keeps_all from point row fit.0 h, tt)
  step_in from row (Branch place (Either inside past)) all fit h e =
      subst (λ ps. Each NoneOut ps) (goes_same ((inside, row) ∷ (past, row) ∷ []) all e)
      (keeps_all from inside row fit.0 h, (keeps_all from past row fit.1.0 h, tt))
  step_in from row (Forget f next) all fit h e =
      let k = checked_passed (given_back m row f.place None (declared_between m f.outer (Some f.last))) ((next, row) ∷ []) all e in
      subst (λ ps. Each NoneOut ps) k.1 (
        keeps from next row (declared_between m f.outer (Some f.last)) fit.keeps h
            (λ v g. back_none m row f.place (declared_between m f.outer (Some f.last)) v fit.own k.0 g),
        tt,
      )
  step_in from row (Call place method arguments target next) all fit h e =
      let k = checked_passed (all_arguments m row (parameter_types p method.0) arguments
      ++ target_checks m (after_claims row arguments) target) ((next, given_leaf (after_claims row arguments) (result_of p method.0) target)
      ∷ []) all e in
      subst (λ ps. Each NoneOut ps) k.1 (
        given_in next (after_claims row arguments) (result_of p method.0) target fit.in_scope
            (claimed_out next row arguments (keeps_all from next row fit.keeps h)),
        tt,
      )
  step_in from row (Start place method arguments next) all fit h e =
      let k = checked_passed (all_arguments m row (parameter_types p method.0) arguments)
      ((next, after_claims row arguments) ∷ []) all e in subst (λ ps. Each NoneOut ps) k.1
      (claimed_out next row arguments (keeps_all from next row fit.keeps h), tt)
  step_in from row (Return place value last) all fit h e = let k =
      checked_passed (value_checks p m row value
      ++ (given_back m row place value (declared_between m None last) ++ back_checks p m row place)) [] all e in
      subst (λ ps. Each NoneOut ps) k.1 tt
  step_in from row (Stop place) all fit h e = absurd (cc)

module _ (p : ProgramModel) (n : ℕ) (m : MethodModel) (g : IsGraphFit p m) (there : slice_get p.methods n ≡ Some m) where
  point_in : (x : Pair) (i : Option Instruction) (all : List Pair) → slice_get (graph_of m).instructions x.0 ≡ i → NoneOut p m g.scope x
      → point_outcome p m x.1 i ≡ Goes all → Each (NoneOut p m g.scope) all
  point_in x None all at h e = subst (λ ps. Each (NoneOut p m g.scope) ps) (goes_same [] all e) tt
  point_in x (Some i) all at h e = step_in p m g.scope x.0 x.1 i all (g.fits x.0 i at) h e

  leads_in : (x y : Pair) → NoneOut p m g.scope x → StepsTo (outcome p n) x y → NoneOut p m g.scope y
  unfolding step_at
  leads_in x y h l =
      let e : point_outcome p m x.1 (slice_get (graph_of m).instructions x.0) ≡ Goes l.all =
      sym (ap (λ (o : Option MethodModel). method_outcome p o x) there) ∙ said_goes (breach_in p n) (step_at p n x) l.all l.goes in
      each_contains (NoneOut p m g.scope) l.all y (point_in x (slice_get (graph_of m).instructions x.0) l.all refl h e) l.has

  path_in : (steps : List Pair) (x y : Pair) → NoneOut p m g.scope x → IsPath (outcome p n) x steps y → NoneOut p m g.scope y
  path_in [] x y h path = subst (λ z. NoneOut p m g.scope z) path h
  path_in (s ∷ steps) x y h path = path_in steps s y (leads_in x s h path.0) path.1

  begin_in : NoneOut p m g.scope ((graph_of m).first, map (λ v. entry_leaf v.role v.ty) m.variables)
  begin_in v out = ap leaf_or_nothing (slice_get-map (λ (x : VariableModel). entry_leaf x.role x.ty) m.variables v)
      ∙ by (slice_get m.variables v) refl
    where
      local : (x : VariableModel) (r : Role) → x.role ≡ r → slice_get m.variables v ≡ Some x → entry_leaf r x.ty ≡ leaf.Nothing
      local x role.Local is at = refl
      local x role.Lent is at = absurd (true≢false (g.begins v x at (ap is_parameter is)) out)
      local x role.Claimed is at = absurd (true≢false (g.begins v x at (ap is_parameter is)) out)

      by : (o : Option VariableModel) → slice_get m.variables v ≡ o
          → leaf_or_nothing (option_map (λ (x : VariableModel). entry_leaf x.role x.ty) o) ≡ leaf.Nothing
      by None at = refl
      by (Some x) at = local x x.role refl at

pub reached_none : (p : ProgramModel) (n : ℕ) (m : MethodModel) (g : IsGraphFit p m) → slice_get p.methods n ≡ Some m → (x : Pair)
    → Reached (outcome p n) (entry_of p n) x → (v : ℕ) → g.scope x.0 v ≡ false → leaf_at x.1 v ≡ leaf.Nothing
reached_none p n m g there x reached v out =
    path_in p n m g there reached.steps (entry_of p n) x
    (subst (λ z. NoneOut p m g.scope z) (sym (ap method_entry there)) (begin_in p n m g there)) reached.path v out
