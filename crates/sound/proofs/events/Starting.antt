-- Start: a new process takes what it is given.
use Rattle.std.proofs.Common.{◌≡◌, ◌≢◌, ◌==◌, ℕ, zero, suc, ◌+◌, ◌<◌, Bool, true, false, List, [], ◌∷◌, ◌++◌, Some, length, map, refl}
use Rattle.std.proofs.Common.{sym, ap, ◌∙◌, subst, arith, ⊎_elim, set}
use Rattle.std.proofs.lemmas.Bool.{cases_Bool, cases_eq}
use Rattle.std.proofs.lemmas.List.{get_or-set_same, get_or-set_other, length-set}
use Rattle.std.specs.Option.{option_map_or}
use Rattle.std.specs.Prelude.{Option, slice_get, if◌then◌else◌}
use Rattle.source.specs.declared.place.Place.{Place}
use Rattle.program.specs.Lists.{Each, is_among}
use Rattle.program.specs.Methods.{MethodModel, VariableModel}
use Rattle.program.specs.Programs.{ProgramModel}
use Rattle.program.specs.WellFormed.{is_parameter, is_claimed}
use Rattle.program.specs.declared.call.Argument.{Argument}
use Rattle.program.specs.declared.types.HeapType.{HeapType}
use Rattle.program.specs.declared.method.Role.TheVariants as role
use Rattle.program.specs.declared.method.Role.{Role}
use Rattle.program.specs.declared.number.MethodId.{MethodId}
use Rattle.flow.specs.Graphs.{Start}
use Rattle.flow.specs.Lowering.{graph_of}
use Rattle.rules.specs.Arguments.{after_claims, given_before, all_arguments}
use Rattle.rules.specs.Endpoints.{parameter_types}
use Rattle.sound.proofs.Parameters.{parameters_of, types_among}
use Rattle.rules.specs.Mentions.{is_lent_role}
use Rattle.sound.proofs.Parameters.{each_argument}
use Rattle.rules.specs.Steps.{entry_leaf, outcome, entry_of}
use Rattle.rows.specs.declared.row.Leaf.{Leaf}
use Rattle.analyse.specs.Reach.{Reached}
use Rattle.machine.specs.Blocks.{with_new_owner, argument_tests}
use Rattle.machine.specs.Frames.{method_at, variables_at_entry, entered_at, addresses}
use Rattle.machine.specs.Outcomes.{Moved, QueueBounds}
use Rattle.machine.specs.World.{no_type, Block, Frame, World, block_at, stack_at, read, owns, is_process}
use Rattle.machine.specs.World.{change_each, let_go}
use Rattle.machine.specs.declared.worlds.Owner.TheVariants.{Process, Channel}
use Rattle.machine.specs.declared.worlds.Owner.{Owner}
use Rattle.sound.specs.GraphFit.{IsStartFit}
use Rattle.sound.specs.Operands.{AreArguments}
use Rattle.sound.proofs.Arguments.{NotClaimed, pair_apart, lent_not_claimed, go_other, go_none, go_fits}
use Rattle.sound.proofs.Basics.{process_apart, stack_there, changed_all}
use Rattle.sound.proofs.events.Calling.{arguments_hold, none_taken, top_once, top_owned, go_stays, claims_own, entry_reached}
use Rattle.sound.proofs.Checks.{Passed, all_pass, passed_goes, passed_left, passed_right, number}
use Rattle.sound.proofs.events.Entering.{args_fit, entered_all, given_of}
use Rattle.sound.proofs.blocks.HandedBlocks.{cut_handed, handed_brought, handed_fits, handed_same, kept_handed}
use Rattle.sound.proofs.events.Giving.{given_leaves, given_own, given_some}
use Rattle.sound.proofs.Invariant.{RowFits, one_if, standing, waiting, held, RestFits, Holds, StaysCutOff, AreBrought, TopFits}
use Rattle.sound.proofs.Invariant.{StackFits, IsLast, BlocksFit, FieldsDeclared, blocks_fit}
use Rattle.sound.proofs.Kept.{LentStays, AreKept, all_fields_kept, row_kept, some_same, rest_above, rest_kept, stack_kept}
use Rattle.sound.proofs.Kept.{went}
use Rattle.sound.proofs.Lists.{each_map}
use Rattle.sound.proofs.Quiet.{contains_first}
use Rattle.sound.proofs.Here.{IsGood, tested_good, Here}
use Rattle.machine.specs.Instructions.{outcome_from}
use Rattle.machine.proofs.ChangeLemmas.{changed_length, eqb_same, eqb_apart, true≢false}
use Rattle.machine.proofs.Holding.{owned_there}

-- the stacks after one is appended
stack_more : (ps : List (List Frame)) (s : List Frame) (q : ℕ) → q ≢ length ps → stack_at (ps ++ s ∷ []) q ≡ stack_at ps q
stack_more [] s zero n = absurd (n refl)
stack_more [] s (suc q) n = refl
stack_more (x ∷ ps) s zero n = refl
stack_more (x ∷ ps) s (suc q) n = stack_more ps s q (λ e. n (ap suc e))

stack_last : (ps : List (List Frame)) (s : List Frame) → stack_at (ps ++ s ∷ []) (length ps) ≡ s
stack_last [] s = refl
stack_last (x ∷ ps) s = stack_last ps s

stack_past : (ps : List (List Frame)) → stack_at ps (length ps) ≡ []
stack_past [] = refl
stack_past (x ∷ ps) = stack_past ps

module _ (p : ProgramModel) (w : World) (self : ℕ) (h : Holds p w) (given : List ℕ)
    (mine : (x : ℕ) → is_among given x ≡ true → owns w.blocks self x ≡ true) where
  abbrev fresh : ℕ
  fresh = length w.processes

  abbrev taken : List Block
  taken = change_each (with_new_owner (Process fresh) given) w.blocks

  at : (j : ℕ) → block_at taken j ≡ with_new_owner (Process fresh) given j (block_at w.blocks j)
  at j = changed_all (with_new_owner (Process fresh) given) w.blocks j (λ past.
      ap (λ (b : Bool). record {
        ty = no_type;
        owner = if b then Process fresh else Channel;
        peer = 0;
        state = 0;
        queue = [];
        fields = [];
      })
      (⊎_elim (λ t. absurd (let k = owned_there w.blocks self j (mine j t) in omega arith)) (λ e. e) (cases_Bool (is_among given j))))

  owner_now : (j : ℕ) → (block_at taken j).owner ≡ (if is_among given j then Process fresh else (block_at w.blocks j).owner)
  owner_now j = ap (λ (b : Block). b.owner) (at j)

  long_now : length taken ≡ length w.blocks
  long_now = changed_length (with_new_owner (Process fresh) given) w.blocks

  pub kept_now : (P : ℕ → Type 0) → AreKept w.blocks taken P
  kept_now = kept_handed p w.blocks taken self given (Process fresh) (blocks_fit p w h) mine refl (λ a. refl) long_now at

  pub cut_now : StaysCutOff w.blocks taken
  cut_now = cut_handed p w.blocks taken self given (Process fresh) (blocks_fit p w h) mine refl (λ a. refl) long_now at

  fits_now : BlocksFit p taken
  fits_now = handed_fits p w.blocks taken self given (Process fresh) (blocks_fit p w h) mine refl (λ a. refl) long_now at
      (λ b. refl)

  declared_now : FieldsDeclared p taken
  declared_now = all_fields_kept p w.blocks taken h.held
      (handed_same p w.blocks taken self given (Process fresh) (blocks_fit p w h) mine refl (λ a. refl) long_now at)
      long_now h.declared

  brought_now : (j : ℕ) → AreBrought p taken (block_at taken j).queue
  brought_now = handed_brought p w.blocks taken self given (Process fresh) (blocks_fit p w h) mine refl (λ a. refl) long_now at h.brought

  owns_now : (q j : ℕ) → owns taken q j ≡ (if is_among given j then fresh == q else owns w.blocks q j)
  owns_now q j = ap (λ (o : Owner). is_process o q) (owner_now j) ∙ by (is_among given j)
    where
      by : (b : Bool) → is_process (if b then Process fresh else (block_at w.blocks j).owner) q ≡
          (if b then fresh == q else owns w.blocks q j)
      by true = refl
      by false = refl

  -- the number of the new process owned nothing before
  fresh_none : (j : ℕ) → owns w.blocks fresh j ≡ false
  fresh_none j = by (owns w.blocks fresh j) (sym (ap (held p j) (stack_past w.processes)) ∙ h.own fresh j)
    where
      by : (b : Bool) → 0 ≡ one_if b → b ≡ false
      by true e = absurd (omega arith)
      by false e = refl

  pub with_started : (f : Frame) (rest : List Frame) (m : MethodModel) (next : ℕ) (vs' : List (Option ℕ)) (row' : List Leaf) (top : Frame)
      → stack_at w.processes self ≡ f ∷ rest → method_at p f.method ≡ Some m → RestFits p w.blocks f rest
      → Reached (outcome p f.method) (entry_of p f.method) (next, row') → RowFits taken m.variables vs' row'
      → LentStays m.variables f.variables vs' → TopFits p taken top → IsLast p top
      → ((j : ℕ) → standing j vs' + one_if (is_among given j) ≡ standing j f.variables)
      → ((j : ℕ) → standing j top.variables ≡ one_if (is_among given j))
      → Holds p (record { processes = set w.processes self (went f next vs' ∷ rest) ++ (top ∷ []) ∷ []; blocks = taken })
  with_started f rest m next vs' row' top is there below reached fits lent t last counts top_counts = record {
    channels = fits_now.channels;
    queues = fits_now.queues;
    brought = brought_now;
    held = fits_now.held;
    declared = declared_now;
    stacks = λ q. ⊎_elim (λ e. subst (λ (s : List Frame). StackFits p taken s) (sym (at_mine q e)) (
      record { m = m; there = there; row = row'; reached = reached; fits = fits },
      rest_above p taken f
          (went f next vs') m rest there refl lent (rest_kept p w.blocks taken f rest cut_now (kept_now (λ a. 0 < waiting p a rest)) below),
    ))
        (λ n. ⊎_elim (λ e. subst (λ (s : List Frame). StackFits p taken s) (sym (at_fresh q e)) (t, last))
        (λ n2. subst (λ (s : List Frame). StackFits p taken s) (sym (at_other q n n2))
        (stack_kept p w.blocks taken (stack_at w.processes q) cut_now (kept_now (λ a. 0 < held p a (stack_at w.processes q)))
        (h.stacks q))) (cases_eq q fresh)) (cases_eq q self);
    own = λ q a. ⊎_elim (λ e. own_mine q a e) (λ n. ⊎_elim (λ e. own_fresh q a e) (λ n2. own_other q a n n2) (cases_eq q fresh))
        (cases_eq q self);
  }
    where
      there_self : self < length w.processes
      there_self = stack_there w.processes self f rest is

      at_mine : (q : ℕ) → q ≡ self → stack_at (set w.processes self (went f next vs' ∷ rest) ++ (top ∷ []) ∷ []) q ≡ went f next vs' ∷ rest
      at_mine q e = ap (stack_at (set w.processes self (went f next vs' ∷ rest) ++ (top ∷ []) ∷ [])) e
          ∙ (stack_more (set w.processes self (went f next vs' ∷ rest)) (top ∷ []) self
          (λ k. let l = length-set w.processes self (went f next vs' ∷ rest) in let s = there_self in absurd (omega arith))
          ∙ get_or-set_same w.processes self (went f next vs' ∷ rest) [] there_self)

      at_fresh : (q : ℕ) → q ≡ fresh → stack_at (set w.processes self (went f next vs' ∷ rest) ++ (top ∷ []) ∷ []) q ≡ top ∷ []
      at_fresh q e = ap (stack_at (set w.processes self (went f next vs' ∷ rest) ++ (top ∷ []) ∷ []))
          (e ∙ sym (length-set w.processes self (went f next vs' ∷ rest)))
          ∙ stack_last (set w.processes self (went f next vs' ∷ rest)) (top ∷ [])

      at_other : (q : ℕ) → q ≢ self → q ≢ fresh
          → stack_at (set w.processes self (went f next vs' ∷ rest) ++ (top ∷ []) ∷ []) q ≡ stack_at w.processes q
      at_other q n n2 = stack_more (set w.processes self (went f next vs' ∷ rest)) (top ∷ []) q
          (λ e. n2 (e ∙ length-set w.processes self (went f next vs' ∷ rest)))
          ∙ get_or-set_other w.processes self q (went f next vs' ∷ rest) [] n

      own_mine : (q a : ℕ) → q ≡ self
          → held p a (stack_at (set w.processes self (went f next vs' ∷ rest) ++ (top ∷ []) ∷ []) q) ≡ one_if (owns taken q a)
      own_mine q a e = ap (held p a) (at_mine q e)
          ∙ (by (is_among given a) refl (counts a) ∙ ap (λ (n : ℕ). one_if (owns taken n a)) (sym e))
        where
          by : (b : Bool) → is_among given a ≡ b → standing a vs' + one_if (is_among given a) ≡ standing a f.variables
              → standing a vs' + waiting p a rest ≡ one_if (owns taken self a)
          by true k c =
              let o : standing a f.variables + waiting p a rest ≡ one_if (owns w.blocks self a) = sym (ap (held p a) is) ∙ h.own self a in
              let o2 : one_if (owns w.blocks self a) ≡ 1 = ap one_if (mine a k) in
              let z : one_if (is_among given a) ≡ 1 = ap one_if k in
              let z2 : one_if (owns taken self a) ≡ 0 =
              ap one_if (owns_now self a ∙ (ap (λ (b : Bool). if b then fresh == self else owns w.blocks self a) k
              ∙ eqb_apart fresh self (λ s. let t = there_self in absurd (omega arith)))) in
              omega arith
          by false k c =
              let o : standing a f.variables + waiting p a rest ≡ one_if (owns w.blocks self a) = sym (ap (held p a) is) ∙ h.own self a in
              let z : one_if (is_among given a) ≡ 0 = ap one_if k in
              let z2 : one_if (owns taken self a) ≡ one_if (owns w.blocks self a) =
              ap one_if (owns_now self a ∙ ap (λ (b : Bool). if b then fresh == self else owns w.blocks self a) k) in
              omega arith

      own_fresh : (q a : ℕ) → q ≡ fresh
          → held p a (stack_at (set w.processes self (went f next vs' ∷ rest) ++ (top ∷ []) ∷ []) q) ≡ one_if (owns taken q a)
      own_fresh q a e = ap (held p a) (at_fresh q e) ∙ (by (is_among given a) refl ∙ ap (λ (n : ℕ). one_if (owns taken n a)) (sym e))
        where
          by : (b : Bool) → is_among given a ≡ b → standing a top.variables + 0 ≡ one_if (owns taken fresh a)
          by true k =
              let c = top_counts a in
              let z : one_if (is_among given a) ≡ 1 = ap one_if k in
              let z2 : one_if (owns taken fresh a) ≡ 1 =
              ap one_if (owns_now fresh a ∙ (ap (λ (b : Bool). if b then fresh == fresh else owns w.blocks fresh a) k
              ∙ eqb_same fresh fresh refl)) in
              omega arith
          by false k =
              let c = top_counts a in
              let z : one_if (is_among given a) ≡ 0 = ap one_if k in
              let z2 : one_if (owns taken fresh a) ≡ 0 =
              ap one_if (owns_now fresh a ∙ (ap (λ (b : Bool). if b then fresh == fresh else owns w.blocks fresh a) k
              ∙ fresh_none a)) in
              omega arith

      own_other : (q a : ℕ) → q ≢ self → q ≢ fresh
          → held p a (stack_at (set w.processes self (went f next vs' ∷ rest) ++ (top ∷ []) ∷ []) q) ≡ one_if (owns taken q a)
      own_other q a n n2 = ap (held p a) (at_other q n n2) ∙ (h.own q a ∙ sym (ap one_if (owns_now q a ∙ by (is_among given a) refl)))
        where
          by : (b : Bool) → is_among given a ≡ b → (if b then fresh == q else owns w.blocks q a) ≡ owns w.blocks q a
          by true k = eqb_apart fresh q (λ s. n2 (sym s))
              ∙ sym (process_apart (block_at w.blocks a).owner self q (mine a k) (λ s. n (sym s)))
          by false k = refl

none_lent : (variables xs : List VariableModel) (arguments : List Argument) → AreArguments variables (parameters_of xs) arguments
    → Each (λ a. a.claimed ≡ true) arguments → (v : ℕ) (x : VariableModel) → slice_get xs v ≡ Some x → is_lent_role x.role ≡ false
none_lent variables [] arguments are claims v x there = absurd (cc)
none_lent variables (y ∷ xs) arguments are claims v x there =
    by y.role refl arguments are claims (λ more k c u z t. none_lent variables xs more k c u z t) v there
  where
    by : (r : Role) → y.role ≡ r → (as' : List Argument)
        → AreArguments variables (if is_parameter r then y ∷ parameters_of xs else parameters_of xs) as' → Each (λ a. a.claimed ≡ true) as'
        → ((more : List Argument) → AreArguments variables (parameters_of xs) more → Each (λ a. a.claimed ≡ true) more
        → (u : ℕ) (z : VariableModel) → slice_get xs u ≡ Some z → is_lent_role z.role ≡ false)
        → (v : ℕ) → slice_get (y ∷ xs) v ≡ Some x → is_lent_role x.role ≡ false
    by role.Local is as' k c go zero t = ap (λ (z : VariableModel). is_lent_role z.role) (sym (some_same y x t)) ∙ ap is_lent_role is
    by role.Local is as' k c go (suc v) t = go as' k c v x t
    by role.Lent is [] k c go v t = absurd k
    by role.Lent is (a ∷ as') k c go v t = absurd (true≢false c.0 (k.0.1 ∙ ap is_claimed is))
    by role.Claimed is [] k c go v t = absurd k
    by role.Claimed is (a ∷ as') k c go zero t = ap (λ (z : VariableModel). is_lent_role z.role) (sym (some_same y x t)) ∙ ap is_lent_role is
    by role.Claimed is (a ∷ as') k c go (suc v) t = go as' k.1 c.1 v x t

pub good_start : (p : ProgramModel) (bound : QueueBounds) (w : World) (self choice : ℕ) (f : Frame) (rest : List Frame) (m : MethodModel)
    (place : Place) (method : MethodId) (arguments : List Argument) (next : ℕ)
    → (h : Here p w self f rest m (Start place method arguments next)) → IsStartFit p m h.graph.scope f.point method.0 arguments next
    → IsGood p w (outcome_from p bound w self f rest (Start place method arguments next) choice)
good_start p bound w self choice f rest m place method arguments next h g =
    let x = g.callee in
    let vs = f.variables in
    let us = let_go vs arguments in
    let types = parameter_types p method.0 in
    let checks = all_arguments m h.row types arguments in
    let row' = after_claims h.row arguments in
    let passed = all_pass checks ((next, row') ∷ []) h.passes in
    let each : Passed (each_argument m h.row (types_among x.variables) arguments) =
    subst (λ (ks : List HeapType). Passed (each_argument m h.row ks arguments))
    (ap (λ (o : Option MethodModel). option_map_or (λ y. types_among y.variables) o []) g.there)
    (passed_right (given_before [] arguments) (each_argument m h.row types arguments) passed) in
    let apart = pair_apart [] arguments (passed_left (given_before [] arguments) (each_argument m h.row types arguments) passed) in
    let args = args_fit p m w.blocks vs h.row (parameters_of x.variables) arguments h.fits g.arguments_fit each in
    let all = λ (y : ℕ). top_once p w self f rest y h.holds h.is in
    let own = λ (y u : ℕ) (i : read vs u ≡ Some y). top_owned p w self f rest y u h.holds h.is i in
    let leaves = λ (y : ℕ). given_leaves y w.blocks vs h.row (types_among x.variables) arguments args apart g.claims (all y) in
    let mine = λ (y : ℕ) (i : is_among (addresses vs arguments) y ≡ true). given_own w.blocks self vs h.row
    (types_among x.variables) arguments y args own i in
    let none = go_none vs arguments in
    let same = each_map (λ a. a.claimed ≡ false → NotClaimed arguments (number a))
    (λ a. a.claimed ≡ false → read us (number a) ≡ read vs (number a)) arguments (λ a k o. go_other vs arguments (number a) (k o))
    (lent_not_claimed arguments apart) in
    let e = entered_all m.variables w.blocks vs us h.row x.variables arguments args g.arguments_fit none same in
    let top : Frame = record { method = method.0; point = (graph_of x).first; variables = variables_at_entry x.variables (given_of vs arguments) } in
    let cut = cut_now p w self h.holds (addresses vs arguments) mine in
    let bs' = taken p w self h.holds (addresses vs arguments) mine in
    tested_good p w (argument_tests w.blocks self f.variables [] arguments) _
    (arguments_hold p bound w self f rest h.row (types_among x.variables) [] arguments all own apart (none_taken vs arguments) args)
    (subst (λ (t : Frame). IsGood p w (Moved record {
      processes = set w.processes self (went f next us ∷ rest) ++ (t ∷ []) ∷ [];
      blocks =
          change_each (with_new_owner (Process (length w.processes)) (addresses vs arguments)) w.blocks;
    }))
    (sym (ap (λ (o : Option MethodModel). entered_at o method.0 (given_of vs arguments)) g.there)) (
      with_started p w self h.holds (addresses vs arguments) mine f rest m next us row' top h.is h.there h.below
          (h.onward ((next, row') ∷ []) (next, row') (passed_goes checks ((next, row') ∷ []) passed) (contains_first (next, row') []))
          (row_kept w.blocks bs' m.variables us row' cut (kept_now p w self h.holds (addresses vs arguments) mine
          (λ a. 0 < standing a us)) (go_fits w.blocks m.variables vs h.row arguments h.fits))
          (go_stays p m vs arguments (claims_own p m h.row (parameters_of x.variables) m.variables arguments g.arguments_fit each))
          (record {
            m = x;
            there = g.there;
            row = map (λ v. entry_leaf v.role v.ty) x.variables;
            reached = entry_reached p method.0 x g.there;
            fits = row_kept w.blocks bs' x.variables (variables_at_entry x.variables (given_of vs arguments))
                (map (λ v. entry_leaf v.role v.ty) x.variables) cut
                (kept_now p w self h.holds (addresses vs arguments) mine
                (λ a. 0 < standing a (variables_at_entry x.variables (given_of vs arguments)))) e.fits;
          })
          (record { m = x; there = g.there; void = g.void; alone = none_lent m.variables x.variables arguments g.arguments_fit g.claims })
          (λ j. (leaves j).0)
          (λ j. e.counts j ∙ (sym (given_some w.blocks vs h.row (types_among x.variables) arguments j args) ∙ (leaves j).1)),
      cut,
    ))
