-- Return: a frame is popped, or a process ends.
use Rattle.std.proofs.Common.{◌≡◌, ◌≢◌, ◌&&◌, ℕ, suc, ◌+◌, Bool, true, false, not, List, [], ◌∷◌, ◌++◌, Some, None, length, refl, sym, ap}
use Rattle.std.proofs.Common.{◌∙◌, subst, arith, inl, inr, ⊎_elim, set}
use Rattle.std.proofs.lemmas.Bool.{cases_Bool, cases_eq, cases_lt}
use Rattle.std.proofs.lemmas.List.{get_or-set_other}
use Rattle.std.proofs.lemmas.Option.{slice_get_within, slice_get_past}
use Rattle.std.specs.Option.{option_map_or}
use Rattle.std.proofs.lemmas.Bool.{cases_lt}
use Rattle.std.specs.Prelude.{option_and_then, Option, ◌⊎◌, slice_get}
use Rattle.source.specs.declared.place.Place.{Place}
use Rattle.program.specs.Lists.{Each}
use Rattle.program.specs.Methods.{MethodModel, VariableModel}
use Rattle.program.specs.Programs.{ProgramModel}
use Rattle.program.specs.declared.types.HeapType.{HeapType}
use Rattle.program.specs.declared.number.VarId.{VarId}
use Rattle.program.specs.declared.statement.Mention.{Mention}
use Rattle.flow.specs.Graphs.{Instruction, Call, Return}
use Rattle.flow.specs.Lowering.{graph_of}
use Rattle.rules.specs.Arguments.{after_claims, given_before, all_arguments, target_checks, given_leaf}
use Rattle.rules.specs.Endpoints.{declared_leaf, is_wrong, parameter_types, result_of, type_of}
use Rattle.sound.proofs.Parameters.{type_known, parameters_of, each_argument}
use Rattle.rules.specs.Mentions.{is_lent, is_lent_role, given_back, is_kept, is_named}
use Rattle.rules.specs.Outcomes.{Pair, Check, breach_at, refuse_if, said_by}
use Rattle.rows.specs.Rows.{leaf_at, is_owned}
use Rattle.rules.specs.RuleTable.{instruction_outcome, back_checks, is_not_back, value_checks}
use Rattle.rules.specs.Scopes.{declared_between}
use Rattle.rules.specs.Steps.{outcome, entry_of, step_at}
use Rattle.rules.specs.Breaches.{breach_in}
use Rattle.rules.specs.declared.breach.Reason.TheVariants.{NotBack, StillOwned}
use Rattle.rows.specs.declared.row.Leaf.TheVariants as leaf
use Rattle.rows.specs.declared.row.Leaf.{Leaf}
use Rattle.analyse.specs.Reach.{Reached}
use Rattle.machine.specs.Blocks.{owns_none}
use Rattle.machine.specs.Frames.{method_at, instruction_at, point_instruction, put, call_target, call_next}
use Rattle.machine.specs.Outcomes.{Moved, QueueBounds, test, after_tests}
use Rattle.machine.specs.World.{Block, Frame, World, stack_at, read, owns, let_go, is_own}
use Rattle.machine.specs.declared.halts.Fault.TheVariants.{F3, F7}
use Rattle.sound.specs.GraphFit.{AreGraphsFit, IsCallFit, IsReturnFit}
use Rattle.sound.specs.Operands.{IsOfType, AreArguments, IsTakenBy}
use Rattle.sound.proofs.Arguments.{PairApart, standing_of, pair_apart, lent_not_claimed, go_counts, all_claimed_of, as_claimed_apart}
use Rattle.sound.proofs.Arguments.{set_none, standing_none}
use Rattle.sound.proofs.Basics.{standing_set, stack_there}
use Rattle.sound.proofs.events.Calling.{same_holds}
use Rattle.sound.proofs.Checks.{Passed, all_pass, passed_goes, not_refused, something_is, passed_left, passed_right, IsClean}
use Rattle.sound.proofs.Checks.{reached_more, row_nothing}
use Rattle.sound.proofs.events.Entering.{accepted, declared_has}
use Rattle.sound.proofs.Invariant.{HasLeaf, LeafFits, RowFits, one_if, one_at, standing, waiting, held, as_claimed, AreLent, WaitsFor}
use Rattle.sound.proofs.Invariant.{kept_back, call_arguments, IsLast}
use Rattle.sound.proofs.Kept.{LentStays, lent_stays_same, lent_stays_set, some_same, rest_above, lent_of, all_lent_stays}
use Rattle.sound.proofs.Lists.{element_at, not_false}
use Rattle.sound.proofs.Quiet.{contains_first, own_holds, fits_type, type_same, stays_same, type_there}
use Rattle.sound.proofs.Here.{IsGood, tested_good, test_holds, row_set, nothing_none, Here, owned_is, step_is}
use Rattle.sound.proofs.events.GivenBack.{passed_range, passed_has, put_back, LentEnds, GivenBack, all_back, fits_back, lent_counts}
use Rattle.machine.specs.Instructions.{outcome_from, returns, value_tests}
use Rattle.machine.proofs.ChangeLemmas.{eqb_apart}

-- ---- the frame that ends
-- the variables without the one that is returned, if any
abbrev without : List (Option ℕ) → Option Mention → List (Option ℕ)
without vs None = vs
without vs (Some v) = set vs v.variable.0 None

module _ (p : ProgramModel) (bound : QueueBounds) (w : World) (self choice : ℕ) (f : Frame) (rest : List Frame) (m : MethodModel) (place : Place)
    (value : Option Mention) (last : Option VarId)
    (h : Here p w self f rest m (Return place value last)) (fit : IsReturnFit p m h.graph.scope f.point value last) where
  abbrev scope_checks : List Check
  scope_checks = given_back m h.row place value (declared_between m None last)

  all_checks : Passed (value_checks p m h.row value ++ (scope_checks ++ back_checks p m h.row place))
  all_checks = all_pass (value_checks p m h.row value ++ (scope_checks ++ back_checks p m h.row place)) [] h.passes

  scoped : Passed scope_checks
  scoped = passed_left scope_checks (back_checks p m h.row place)
      (passed_right (value_checks p m h.row value) (scope_checks ++ back_checks p m h.row place) all_checks)

  lent_back : Passed (back_checks p m h.row place)
  lent_back = passed_right scope_checks (back_checks p m h.row place)
      (passed_right (value_checks p m h.row value) (scope_checks ++ back_checks p m h.row place) all_checks)

  kept_none : (u : ℕ) → is_lent m u ≡ false → is_named value u ≡ false → read f.variables u ≡ None
  kept_none u own named = nothing_none w.blocks m.variables f.variables h.row u h.fits (by (cases_Bool (h.graph.scope f.point u)))
    where
      by : (h.graph.scope f.point u ≡ true) ⊎ (h.graph.scope f.point u ≡ false) → leaf_at h.row u ≡ leaf.Nothing
      by (inl inside) =
          let k : is_kept m h.row value u ≡ false =
          not_refused (is_kept m h.row value u) _ (passed_has
          (λ v. refuse_if (is_kept m h.row value v) (breach_at place (StillOwned record { 0 = v }))) (declared_between m None last) u scoped
          (fit.covers u inside)) in
          something_is (leaf_at h.row u)
          (sym (ap (λ (b : Bool). not b && (not (is_lent m u) && is_owned h.row u)) named
          ∙ ap (λ (b : Bool). not b && is_owned h.row u) own) ∙ k)
      by (inr outside) = h.none u outside

  lent_ends : LentEnds w.blocks m.variables f.variables
  lent_ends u x at there lent is =
      let l = leaf_at h.row u in
      let k : is_not_back p m h.row u ≡ false =
      not_refused (is_not_back p m h.row u) _
      (passed_range (λ v. refuse_if (is_not_back p m h.row v) (breach_at place (NotBack record { 0 = v }))) 0 (length m.variables) u lent_back (omega arith)
      (let short = slice_get_within m.variables u x there in omega arith)) in
      let is_lent_here : is_lent m u ≡ true = lent_of m.variables u x there ∙ lent in
      let right : is_wrong x.ty l ≡ false =
      sym (ap (λ (b : Bool). b && option_map_or (λ j. is_wrong j l) (type_of m u) false) is_lent_here
      ∙ ap (λ (o : Option HeapType). option_map_or (λ j. is_wrong j l) o false) (type_known m u x there)) ∙ k in
      let has : HasLeaf w.blocks x.ty at (leaf_at h.row u) =
      subst (λ (y : Option ℕ). LeafFits w.blocks x.ty y (leaf_at h.row u)) is (h.fits.each u x there) in
      declared_has w.blocks x.ty at (leaf_at h.row u) has (accepted w.blocks x.ty at (leaf_at h.row u) has right)

  -- ---- the process ends
  last_none : IsLast p f → value ≡ None
  last_none l = by m.result value (ap (λ (x : MethodModel). x.result) (some_same m l.m (sym h.there ∙ l.there)) ∙ l.void) fit.given
    where
      by : (r : Option HeapType) (v : Option Mention) → r ≡ None → IsTakenBy m.variables r v → v ≡ None
      by None None e t = refl
      by None (Some v) e t = absurd t
      by (Some k) v e t = absurd (cc)

  all_none : IsLast p f → (u : ℕ) → read f.variables u ≡ None
  all_none l u = kept_none u (not_lent u) (ap (λ (v : Option Mention). is_named v u) (last_none l))
    where
      not_lent : (u : ℕ) → is_lent m u ≡ false
      not_lent u = ⊎_elim
          (λ short. let e = element_at m.variables u short in lent_of m.variables u e.0 e.1
          ∙ l.alone u e.0 (ap (λ (x : MethodModel). slice_get x.variables u) (some_same l.m m (sym l.there ∙ h.there)) ∙ e.1))
          (λ past. ap (λ (o : Option VariableModel). option_map_or (λ y. is_lent_role y.role) o false) (slice_get_past m.variables u past))
          (cases_lt u (length m.variables))

standing_nothing : (vs : List (Option ℕ)) (a : ℕ) → ((u : ℕ) → read vs u ≡ None) → standing a vs ≡ 0
standing_nothing [] a h = refl
standing_nothing (x ∷ vs) a h =
    let z : one_at a x ≡ 0 = ap (one_at a) (h 0) in
    let e = standing_nothing vs a (λ u. h (suc u)) in
    omega arith

-- a process that owns no block passes the test
has_none : (bs : List Block) (q : ℕ) → ((a : ℕ) → owns bs q a ≡ false) → owns_none bs q ≡ true
has_none [] q h = refl
has_none (b ∷ bs) q h = ap (λ (x : Bool). not x && owns_none bs q) (h 0) ∙ has_none bs q (λ a. h (suc a))

zero_false : (b : Bool) → one_if b ≡ 0 → b ≡ false
zero_false true e = absurd (omega arith)
zero_false false e = refl

named_other : (v : Mention) (u : ℕ) → u ≢ v.variable.0 → is_named (Some v) u ≡ false
named_other v u n = eqb_apart v.variable.0 u (λ e. n (sym e))

-- ---- the caller goes on
module _ (p : ProgramModel) (bound : QueueBounds) (w : World) (self choice : ℕ) (f g : Frame) (more : List Frame) (m : MethodModel)
    (place : Place) (value : Option Mention) (last : Option VarId)
    (h : Here p w self f (g ∷ more) m (Return place value last)) (fit : IsReturnFit p m h.graph.scope f.point value last)
    (graphs : AreGraphsFit p) (clean : (n : ℕ) (x : MethodModel) → method_at p n ≡ Some x → IsClean p n) where
  abbrev caller : WaitsFor p w.blocks g f
  caller = h.below.0

  abbrev call_of : Instruction
  call_of = Call caller.place record { 0 = f.method } caller.arguments caller.target caller.next

  abbrev left : List Leaf
  left = after_claims caller.before caller.arguments

  caller_at : slice_get (graph_of caller.m).instructions g.point ≡ Some call_of
  caller_at = sym (ap (λ (x : Option MethodModel). point_instruction x g.point) caller.there) ∙ caller.call

  caller_fit : IsCallFit p caller.m (graphs.each g.method caller.m caller.there).scope g.point f.method caller.arguments caller.target
      caller.next
  caller_fit = (graphs.each g.method caller.m caller.there).fits g.point call_of caller_at

  callee_is : caller_fit.callee ≡ m
  callee_is = some_same caller_fit.callee m (sym caller_fit.there ∙ h.there)

  same_step : step_at p g.method (g.point, caller.before) ≡ instruction_outcome p caller.m call_of caller.before
  same_step = step_is p g caller.m call_of caller.before caller.there caller_at

  abbrev call_types : List HeapType
  call_types = parameter_types p f.method

  abbrev call_checks : List Check
  call_checks = all_arguments caller.m caller.before call_types caller.arguments ++ target_checks caller.m left caller.target

  abbrev call_after : List Pair
  call_after = (caller.next, given_leaf left (result_of p f.method) caller.target) ∷ []

  call_passed : Passed call_checks
  call_passed = all_pass call_checks call_after (λ breach e. clean g.method caller.m caller.there (breach_in p g.method breach)
      (record { at = (g.point, caller.before); reached = caller.reached; fails = ap (said_by (breach_in p g.method)) (same_step ∙ e) }))

  call_reached : Reached (outcome p g.method) (entry_of p g.method) (caller.next, given_leaf left (result_of p f.method) caller.target)
  call_reached = reached_more (outcome p g.method) (entry_of p g.method) (g.point, caller.before)
      (caller.next, given_leaf left (result_of p f.method) caller.target) call_after caller.reached
      (ap (said_by (breach_in p g.method)) (same_step ∙ passed_goes call_checks call_after call_passed))
      (contains_first (caller.next, given_leaf left (result_of p f.method) caller.target) [])

  apart : PairApart caller.arguments
  apart = pair_apart [] caller.arguments
      (passed_left (given_before [] caller.arguments) (each_argument caller.m caller.before call_types caller.arguments)
      (passed_left (all_arguments caller.m caller.before call_types caller.arguments)
      (target_checks caller.m left caller.target) call_passed))

  target_passed : Passed (target_checks caller.m left caller.target)
  target_passed = passed_right (all_arguments caller.m caller.before call_types caller.arguments)
      (target_checks caller.m left caller.target) call_passed

  are : AreArguments caller.m.variables (parameters_of m.variables) caller.arguments
  are = subst (λ (x : MethodModel). AreArguments caller.m.variables (parameters_of x.variables) caller.arguments) callee_is
      caller_fit.arguments_fit

  lent : AreLent w.blocks g.variables caller.before m.variables f.variables caller.arguments
  lent = subst (λ (x : MethodModel). AreLent w.blocks g.variables caller.before x.variables f.variables caller.arguments)
      (some_same caller.callee m (sym caller.callee_there ∙ h.there)) caller.lent

  back : Each (GivenBack w.blocks caller.m.variables g.variables caller.before) caller.arguments
  back = all_back w.blocks caller.m.variables g.variables caller.before m.variables f.variables caller.arguments are
      (lent_ends p bound w self choice f (g ∷ more) m place value last h fit) lent

  kept_is : kept_back p g ≡ let_go g.variables (as_claimed caller.arguments)
  kept_is = ap (λ (o : Option Instruction). let_go g.variables (as_claimed (call_arguments o))) caller.call

  row_left : RowFits w.blocks caller.m.variables g.variables left
  row_left = put_back w.blocks caller.m.variables g.variables left caller.arguments
      (subst (λ (ys : List (Option ℕ)). RowFits w.blocks caller.m.variables ys (after_claims left (as_claimed caller.arguments))) kept_is
      caller.fits)
      (fits_back w.blocks caller.m.variables g.variables caller.before caller.arguments caller.arguments back
      (lent_not_claimed caller.arguments apart) (row_nothing caller.before caller.arguments))

  caller_counts : (n : ℕ) → standing n (kept_back p g) + standing_of n g.variables caller.arguments ≡ standing n g.variables
  caller_counts n =
      let one = go_counts n g.variables (as_claimed caller.arguments) (as_claimed_apart caller.arguments apart) in
      let two = all_claimed_of n g.variables caller.arguments in
      let three : standing n (kept_back p g) ≡ standing n (let_go g.variables (as_claimed caller.arguments)) = ap (standing n) kept_is in
      omega arith

  stack_counts : (n : ℕ) → held p n (stack_at w.processes self) ≡ standing n f.variables + (standing n (kept_back p g) + waiting p n more)
  stack_counts n = ap (held p n) h.is

  return_good : (gv' : List (Option ℕ)) (row' : List Leaf) → RowFits w.blocks caller.m.variables gv' row'
      → LentStays caller.m.variables g.variables gv' → Reached (outcome p g.method) (entry_of p g.method) (caller.next, row')
      → ((n : ℕ) → standing n gv' + waiting p n more ≡ held p n (stack_at w.processes self))
      → IsGood p w (Moved record {
        processes =
            set w.processes self (record { method = g.method; point = call_next (instruction_at p g); variables = gv' } ∷ more);
        blocks =
            w.blocks;
      })
  return_good gv' row' fits stays reached counts =
      subst (λ (n : ℕ). IsGood p w (Moved record {
        processes =
            set w.processes self (record { method = g.method; point = n; variables = gv' } ∷ more);
        blocks = w.blocks;
      }))
      (sym (ap call_next caller.call)) (
        same_holds p w self (record { method = g.method; point = caller.next; variables = gv' } ∷ more) h.holds
            (stack_there w.processes self f (g ∷ more) h.is) (
              record { m = caller.m; there = caller.there; row = row'; reached = reached; fits = fits },
              rest_above p w.blocks g (record { method = g.method; point = caller.next; variables = gv' }) caller.m more caller.there refl
                  stays h.below.1,
            )
            counts,
        stays_same w.blocks,
      )

  result_is : result_of p f.method ≡ m.result
  result_is = ap (λ (x : Option MethodModel). option_and_then (λ y. y.result) x) h.there

  return_nothing : m.result ≡ None → value ≡ None → IsGood p w (returns p bound w self f (g ∷ more) None (g ∷ more))
  return_nothing r v =
      return_good g.variables left row_left (lent_stays_same caller.m.variables g.variables)
      (subst (λ (k : Option HeapType). Reached (outcome p g.method) (entry_of p g.method) (caller.next, given_leaf left k caller.target))
      (result_is ∙ r) call_reached)
      (λ n.
      let one = caller_counts n in
      let two : standing n f.variables ≡ standing_of n g.variables caller.arguments =
      lent_counts w.blocks g.variables caller.before m.variables f.variables caller.arguments n h.fits.long
      (λ u x there own. kept_none p bound w self choice f (g ∷ more) m place value last h fit u (lent_of m.variables u x there ∙ own)
      (ap (λ (o : Option Mention). is_named o u) v)) lent in
      let three = stack_counts n in
      omega arith)

  return_something : (k : HeapType) (v t : Mention) → m.result ≡ Some k → value ≡ Some v → caller.target ≡ Some t
      → IsOfType m.variables k v.variable.0 → IsOfType caller.m.variables k t.variable.0
      → IsGood p w (after_tests (value_tests p bound w self f (g ∷ more) (Some v)) (returns p bound w self f (g ∷ more) (Some v) (g ∷ more)))
  return_something k v t r is to v_type t_type =
      let checks : Passed (value_checks p m h.row (Some v)) =
      subst (λ (o : Option Mention). Passed (value_checks p m h.row o)) is
      (passed_left (value_checks p m h.row value) (scope_checks p bound w self choice f (g ∷ more) m place value last h fit
      ++ back_checks p m h.row place) (all_checks p bound w self choice f (g ∷ more) m place value last h fit)) in
      let v_own : is_lent m v.variable.0 ≡ false = not_refused (is_lent m v.variable.0) _ checks.0 in
      let owned = not_false (is_owned h.row v.variable.0) (not_refused (not (is_owned h.row v.variable.0)) _ checks.1.0) in
      let right : is_wrong k (leaf_at h.row v.variable.0) ≡ false =
      ap (λ (o : Option HeapType). option_map_or (λ j. is_wrong j (leaf_at h.row v.variable.0)) o false) (sym r)
      ∙ not_refused (option_map_or (λ j. is_wrong j (leaf_at h.row v.variable.0)) m.result false) _ checks.1.1.0 in
      let o = owned_is p w self f (g ∷ more) m h.row v.variable.0 h.holds h.is h.fits owned in
      let has : HasLeaf w.blocks k o.at (leaf_at h.row v.variable.0) =
      fits_type w.blocks o.variable.ty k (Some o.at) (leaf_at h.row v.variable.0)
      (type_same m.variables v.variable.0 k o.variable v_type o.there) o.leaf in
      let given : HasLeaf w.blocks k o.at (declared_leaf k) =
      declared_has w.blocks k o.at (leaf_at h.row v.variable.0) has (accepted w.blocks k o.at (leaf_at h.row v.variable.0) has right) in
      let x = read f.variables v.variable.0 in
      let t_checks : Passed (target_checks caller.m left (Some t)) =
      subst (λ (z : Option Mention). Passed (target_checks caller.m left z)) to target_passed in
      let t_own : is_lent caller.m t.variable.0 ≡ false = not_refused (is_lent caller.m t.variable.0) _ t_checks.0 in
      let t_none = nothing_none w.blocks caller.m.variables g.variables left t.variable.0 row_left
      (something_is (leaf_at left t.variable.0) (not_refused (is_owned left t.variable.0) _ t_checks.1.0)) in
      let gv' = set g.variables t.variable.0 x in
      tested_good p w (value_tests p bound w self f (g ∷ more) (Some v)) _
      (test_holds (is_own w.blocks self x) F3 (own_holds p bound w self f (g ∷ more) x o.at o.is o.owned), tt)
      (subst (λ (z : Option Mention). IsGood p w (Moved record {
        processes =
            set w.processes self (record { method = g.method; point = call_next (instruction_at p g); variables = put g.variables z x }
            ∷ more);
        blocks = w.blocks;
      }))
      (sym (ap call_target caller.call ∙ to))
      (return_good gv' (set left t.variable.0 (declared_leaf k))
      (row_set w.blocks caller.m.variables g.variables left t.variable.0 x (declared_leaf k) row_left
      (λ y there. subst (λ (z : Option ℕ). LeafFits w.blocks y.ty z (declared_leaf k)) (sym o.is)
      (fits_type w.blocks k y.ty (Some o.at) (declared_leaf k) (sym (type_same caller.m.variables t.variable.0 k y t_type there)) given)))
      (lent_stays_set caller.m.variables g.variables t.variable.0 x t_own)
      (subst (λ (z : Option Mention). Reached (outcome p g.method) (entry_of p g.method) (caller.next, given_leaf left (Some k) z)) to
      (subst (λ (j : Option HeapType). Reached (outcome p g.method) (entry_of p g.method) (caller.next, given_leaf left j caller.target))
      (result_is ∙ r) call_reached))
      (λ n.
      let one = caller_counts n in
      let ys = set f.variables v.variable.0 None in
      let stays = lent_stays_set m.variables f.variables v.variable.0 None v_own in
      let two : standing n ys ≡ standing_of n g.variables caller.arguments =
      lent_counts w.blocks g.variables caller.before m.variables ys caller.arguments n (stays.long ∙ h.fits.long)
      (λ u z there own. without_none u z there own)
      (all_lent_stays w.blocks g.variables caller.before m.variables f.variables ys caller.arguments stays lent) in
      let three = stack_counts n in
      let four = standing_none f.variables v.variable.0 n in
      let five = standing_set g.variables t.variable.0 n x
      (type_there w.blocks caller.m.variables g.variables left t.variable.0 k row_left t_type) in
      let six : one_at n (read g.variables t.variable.0) ≡ 0 = ap (one_at n) t_none in
      omega arith)))
    where
      without_none : (u : ℕ) (z : VariableModel) → slice_get m.variables u ≡ Some z → is_lent_role z.role ≡ false
          → read (set f.variables v.variable.0 None) u ≡ None
      without_none u z there own = ⊎_elim
          (λ e. ap (read (set f.variables v.variable.0 None)) e ∙ set_none f.variables v.variable.0)
          (λ n. get_or-set_other f.variables v.variable.0 u None None n
          ∙ kept_none p bound w self choice f (g ∷ more) m place value last h fit u (lent_of m.variables u z there ∙ own)
          (ap (λ (o : Option Mention). is_named o u) is ∙ named_other v u n))
          (cases_eq u v.variable.0)

  pub good_back : IsGood p w (after_tests (value_tests p bound w self f (g ∷ more) value) (returns p bound w self f (g ∷ more) value (g ∷ more)))
  good_back = by m.result refl value refl caller.target refl fit.given
      (subst (λ (x : MethodModel). IsTakenBy caller.m.variables x.result caller.target) callee_is caller_fit.taken)
    where
      by : (r : Option HeapType) → m.result ≡ r → (v : Option Mention) → value ≡ v → (t : Option Mention) → caller.target ≡ t
          → IsTakenBy m.variables r v → IsTakenBy caller.m.variables r t
          → IsGood p w (after_tests (value_tests p bound w self f (g ∷ more) v) (returns p bound w self f (g ∷ more) v (g ∷ more)))
      by None r None v t to a b = return_nothing r v
      by None r (Some x) v t to a b = absurd a
      by (Some k) r None v t to a b = absurd a
      by (Some k) r (Some x) v None to a b = absurd b
      by (Some k) r (Some x) v (Some t) to a b = return_something k x t r v to a b

pub good_return : (p : ProgramModel) (bound : QueueBounds) (w : World) (self choice : ℕ) (f : Frame) (rest : List Frame) (m : MethodModel)
    (place : Place) (value : Option Mention) (last : Option VarId) → AreGraphsFit p
    → ((n : ℕ) (x : MethodModel) → method_at p n ≡ Some x → IsClean p n) → (h : Here p w self f rest m (Return place value last))
    → IsReturnFit p m h.graph.scope f.point value last
    → IsGood p w (outcome_from p bound w self f rest (Return place value last) choice)
good_return p bound w self choice f [] m place value last graphs clean h fit =
    subst (λ (v : Option Mention). IsGood p w (after_tests (value_tests p bound w self f [] v) (returns p bound w self f [] v [])))
    (sym (last_none p bound w self choice f [] m place value last h fit h.below))
    (tested_good p w (test (owns_none w.blocks self) F7 ∷ []) _
    (test_holds (owns_none w.blocks self) F7 (has_none w.blocks self (λ a. zero_false (owns w.blocks self a) (own_none a))), tt) (
      same_holds p w self [] h.holds (stack_there w.processes self f [] h.is) tt
          (λ a. sym (h.holds.own self a ∙ own_none a)),
      stays_same w.blocks,
    ))
  where
    own_none : (a : ℕ) → one_if (owns w.blocks self a) ≡ 0
    own_none a =
        let one : held p a (stack_at w.processes self) ≡ standing a f.variables + 0 = ap (held p a) h.is in
        let two = h.holds.own self a in
        let three = standing_nothing f.variables a (all_none p bound w self choice f [] m place value last h fit h.below) in
        omega arith
good_return p bound w self choice f (g ∷ more) m place value last graphs clean h fit =
    good_back p bound w self choice f g more m place value last h fit graphs clean
