-- Call: a frame is pushed.
use Rattle.std.proofs.Common.{◌≡◌, ◌≢◌, ◌&&◌, ℕ, zero, suc, ◌+◌, ◌<◌, ◌≤◌, Bool, true, false, not, List, [], ◌∷◌, ◌++◌, Some, None}
use Rattle.std.proofs.Common.{length, map, refl, sym, ap, ◌∙◌, subst, arith, ⊎_elim, set}
use Rattle.std.proofs.lemmas.Bool.{cases_eq}
use Rattle.std.proofs.lemmas.List.{get_or-set_same, get_or-set_other}
use Rattle.std.specs.Option.{option_map_or}
use Rattle.std.specs.Prelude.{Option, ◌||◌, if◌then◌else◌}
use Rattle.source.specs.declared.place.Place.{Place}
use Rattle.program.specs.Lists.{Each, is_among}
use Rattle.program.specs.Methods.{MethodModel, VariableModel}
use Rattle.program.specs.Programs.{ProgramModel}
use Rattle.program.specs.declared.call.Argument.{Argument}
use Rattle.program.specs.declared.types.HeapType.{HeapType}
use Rattle.program.specs.declared.number.MethodId.{MethodId}
use Rattle.program.specs.declared.statement.Mention.{Mention}
use Rattle.flow.specs.Graphs.{Instruction, Call}
use Rattle.flow.specs.Lowering.{graph_of}
use Rattle.rules.specs.Arguments.{after_claims, given_before, all_arguments, target_checks, given_leaf}
use Rattle.rules.specs.Endpoints.{parameter_types, result_of}
use Rattle.sound.proofs.Parameters.{parameters_of, types_among}
use Rattle.rules.specs.Mentions.{is_lent}
use Rattle.sound.proofs.Parameters.{each_argument}
use Rattle.rules.specs.Steps.{entry_leaf, outcome, entry_of, method_entry}
use Rattle.rows.specs.declared.row.Leaf.{Leaf}
use Rattle.analyse.specs.Reach.{Reached}
use Rattle.machine.specs.Blocks.{is_own_still, argument_tests}
use Rattle.machine.specs.Frames.{method_at, variables_at_entry, address, entered_at, instruction_at, point_instruction}
use Rattle.machine.specs.Outcomes.{Moved, QueueBounds}
use Rattle.machine.specs.World.{Frame, World, stack_at, read, owns, let_go}
use Rattle.machine.specs.declared.halts.Fault.TheVariants.{F1, F3}
use Rattle.sound.specs.GraphFit.{IsGraphFit, IsCallFit}
use Rattle.sound.specs.Operands.{AreArguments}
use Rattle.sound.proofs.Arguments.{PairApart, NotClaimed, pair_apart, lent_not_claimed, go_long, go_other, go_none, go_fits, go_counts}
use Rattle.sound.proofs.Arguments.{all_claimed_of, as_claimed_apart, claimed_of, split_of, standing_of}
use Rattle.sound.proofs.Basics.{stack_there, standing_read, one_at_same}
use Rattle.sound.proofs.Checks.{Passed, all_pass, not_refused, passed_left, passed_right, number}
use Rattle.sound.proofs.events.Entering.{ArgsFit, args_fit, entered_all, given_of}
use Rattle.sound.proofs.Invariant.{RowFits, one_if, one_at, standing, waiting, held, Holds, as_claimed, StackFits, kept_back}
use Rattle.sound.proofs.Invariant.{call_arguments}
use Rattle.sound.proofs.Kept.{LentStays, lent_stays_same, lent_stays_set, rest_above, lent_stays_on}
use Rattle.sound.proofs.Lists.{each_map}
use Rattle.sound.proofs.Quiet.{stays_same}
use Rattle.sound.proofs.Here.{IsGood, tested_good, test_holds, Here, AllHold}
use Rattle.machine.specs.Instructions.{outcome_from}
use Rattle.machine.proofs.CountLemmas.{one_or_none}
use Rattle.machine.proofs.HeldExchange.{one_if_true}
use Rattle.machine.proofs.ChangeLemmas.{eqb_apart}

-- ---- one stack changes, and the blocks are unchanged
pub same_holds : (p : ProgramModel) (w : World) (self : ℕ) (fs' : List Frame) → Holds p w → self < length w.processes
    → StackFits p w.blocks fs' → ((a : ℕ) → held p a fs' ≡ held p a (stack_at w.processes self))
    → Holds p (record { processes = set w.processes self fs'; blocks = w.blocks })
same_holds p w self fs' h there fits counted = record {
  channels = h.channels;
  stacks = λ q. ⊎_elim (λ e. subst (λ (fs : List Frame). StackFits p w.blocks fs) (sym (mine q e)) fits)
      (λ n. subst (λ (fs : List Frame). StackFits p w.blocks fs) (sym (others q n)) (h.stacks q)) (cases_eq q self);
  own = λ q a. ⊎_elim (λ e. ap (held p a) (mine q e) ∙ (counted a ∙ (h.own self a ∙ ap (λ (n : ℕ). one_if (owns w.blocks n a)) (sym e))))
      (λ n. ap (held p a) (others q n) ∙ h.own q a) (cases_eq q self);
  queues = h.queues;
  brought = h.brought;
  held = h.held;
  declared = h.declared;
}
  where
    mine : (q : ℕ) → q ≡ self → stack_at (set w.processes self fs') q ≡ fs'
    mine q e = ap (stack_at (set w.processes self fs')) e ∙ get_or-set_same w.processes self fs' [] there

    others : (q : ℕ) → q ≢ self → stack_at (set w.processes self fs') q ≡ stack_at w.processes q
    others q n = get_or-set_other w.processes self q fs' [] n

-- ---- the tests of arguments
-- an address that differs from all those taken is not among them
not_taken : (taken : List ℕ) (a : ℕ) → Each (λ b. b ≢ a) taken → is_among taken a ≡ false
not_taken [] a h = refl
not_taken (b ∷ taken) a h = ap (λ (x : Bool). x || is_among taken a) (eqb_apart b a h.0) ∙ not_taken taken a h.1

-- no two variables of a frame have the same address
pub no_copies : (vs : List (Option ℕ)) (u v a : ℕ) → standing a vs ≤ 1 → read vs u ≡ Some a → read vs v ≡ Some a → u ≡ v
no_copies [] u v a h x y = absurd (cc)
no_copies (z ∷ vs) zero zero a h x y = refl
no_copies (z ∷ vs) zero (suc v) a h x y =
    let one : one_at a z ≡ 1 = ap (one_at a) x ∙ one_at_same a a refl in
    let some = standing_read vs v a y in
    absurd (omega arith)
no_copies (z ∷ vs) (suc u) zero a h x y =
    let one : one_at a z ≡ 1 = ap (one_at a) y ∙ one_at_same a a refl in
    let some = standing_read vs u a x in
    absurd (omega arith)
no_copies (z ∷ vs) (suc u) (suc v) a h x y = let less : standing a vs ≤ 1 = omega arith in ap suc (no_copies vs u v a less x y)

-- the variables of the arguments have no address that was taken
abbrev TakenApart : List (Option ℕ) → List ℕ → List Argument → Type 0
TakenApart vs taken arguments = Each (λ b. (x : ℕ) → read vs (number b) ≡ Some x → Each (λ t. t ≢ x) taken) arguments

taken_more : (vs : List (Option ℕ)) (taken : List ℕ) (a : Argument) (x : ℕ) (arguments : List Argument) → ((y : ℕ) → standing y vs ≤ 1)
    → read vs (number a) ≡ Some x → Each (λ b. number b ≢ number a) arguments → TakenApart vs taken arguments
    → TakenApart vs (x ∷ taken) arguments
taken_more vs taken a x [] once is apart h = tt
taken_more vs taken a x (b ∷ arguments) once is apart h = (
  λ y e. ((λ same. apart.0 (no_copies vs (number b) (number a) y (once y) e (is ∙ ap Some same))), h.0 y e),
  taken_more vs taken a x arguments once is apart.1 h.1,
)

module _ (p : ProgramModel) (bound : QueueBounds) (w : World) (self : ℕ) (f : Frame) (rest : List Frame) where
  pub arguments_hold : (row : List Leaf) (types : List HeapType) (taken : List ℕ) (arguments : List Argument)
      → ((y : ℕ) → standing y f.variables ≤ 1) → ((y v : ℕ) → read f.variables v ≡ Some y → owns w.blocks self y ≡ true)
      → PairApart arguments → TakenApart f.variables taken arguments → ArgsFit w.blocks f.variables row types arguments
      → AllHold (argument_tests w.blocks self f.variables taken arguments)
  arguments_hold row [] taken [] once own apart t fit = tt
  arguments_hold row [] taken (a ∷ arguments) once own apart t fit = absurd fit
  arguments_hold row (k ∷ types) taken [] once own apart t fit = absurd fit
  arguments_hold row (k ∷ types) taken (a ∷ arguments) once own apart t fit = (
    test_holds (is_own_still w.blocks self taken (read f.variables (number a))) (if a.claimed then F3 else F1)
        (ap (is_own_still w.blocks self taken) fit.0.is
        ∙ both_holds (owns w.blocks self fit.0.at) (is_among taken fit.0.at) (own fit.0.at (number a) fit.0.is)
        (not_taken taken fit.0.at (t.0 fit.0.at fit.0.is))),
    arguments_hold row types (if a.claimed then address (read f.variables (number a)) ∷ taken else taken) arguments once own apart.1
        (by a.claimed) fit.1,
  )
    where
      both_holds : (x y : Bool) → x ≡ true → y ≡ false → x && not y ≡ true
      both_holds true true e n = absurd (cc)
      both_holds true false e n = refl
      both_holds false y e n = absurd (cc)

      by : (c : Bool) → TakenApart f.variables (if c then address (read f.variables (number a)) ∷ taken else taken) arguments
      by true = subst (λ (x : Option ℕ). TakenApart f.variables (address x ∷ taken) arguments) (sym fit.0.is)
          (taken_more f.variables taken a fit.0.at arguments once fit.0.is apart.0 t.1)
      by false = t.1

-- nothing is taken yet
pub none_taken : (vs : List (Option ℕ)) (arguments : List Argument) → TakenApart vs [] arguments
none_taken vs [] = tt
none_taken vs (a ∷ arguments) = ((λ x e. tt), none_taken vs arguments)

-- the process owns what its innermost frame has, and has it once
pub top_owned : (p : ProgramModel) (w : World) (self : ℕ) (f : Frame) (rest : List Frame) (y v : ℕ) → Holds p w
    → stack_at w.processes self ≡ f ∷ rest → read f.variables v ≡ Some y → owns w.blocks self y ≡ true
top_owned p w self f rest y v h is e =
    let some : 0 < standing y f.variables = standing_read f.variables v y e in
    let counted : standing y f.variables + waiting p y rest ≡ one_if (owns w.blocks self y) = sym (ap (held p y) is) ∙ h.own self y in
    one_if_true (owns w.blocks self y) (omega arith)

pub top_once : (p : ProgramModel) (w : World) (self : ℕ) (f : Frame) (rest : List Frame) (y : ℕ) → Holds p w
    → stack_at w.processes self ≡ f ∷ rest → standing y f.variables ≤ 1
top_once p w self f rest y h is =
    let counted : standing y f.variables + waiting p y rest ≡ one_if (owns w.blocks self y) = sym (ap (held p y) is) ∙ h.own self y in
    let most = one_or_none (owns w.blocks self y) in
    omega arith

-- the entry of a method is reached
pub entry_reached : (p : ProgramModel) (n : ℕ) (x : MethodModel) → method_at p n ≡ Some x
    → Reached (outcome p n) (entry_of p n) ((graph_of x).first, map (λ v. entry_leaf v.role v.ty) x.variables)
entry_reached p n x there = record { steps = []; path = ap method_entry there }

-- claimed arguments are not lent to the caller
pub claims_own : (p : ProgramModel) (m : MethodModel) (row : List Leaf) (xs : List VariableModel) (variables : List VariableModel)
    (arguments : List Argument) → AreArguments variables xs arguments → Passed (each_argument m row (map (λ v. v.ty) xs) arguments)
    → Each (λ a. a.claimed ≡ true → is_lent m (number a) ≡ false) arguments
claims_own p m row [] variables [] are h = tt
claims_own p m row [] variables (a ∷ arguments) are h = absurd are
claims_own p m row (x ∷ xs) variables [] are h = tt
claims_own p m row (x ∷ xs) variables (a ∷ arguments) are h = (
  λ c. sym (ap (λ (b : Bool). b && is_lent m (number a)) c) ∙ not_refused (a.claimed && is_lent m (number a)) _ h.1.0,
  claims_own p m row xs variables arguments are.1 h.1.1.1,
)

pub go_stays : (p : ProgramModel) (m : MethodModel) (vs : List (Option ℕ)) (arguments : List Argument)
    → Each (λ a. a.claimed ≡ true → is_lent m (number a) ≡ false) arguments → LentStays m.variables vs (let_go vs arguments)
go_stays p m vs [] h = lent_stays_same m.variables vs
go_stays p m vs (a ∷ arguments) h =
    lent_stays_on m.variables vs (if a.claimed then set vs (number a) None else vs)
    (let_go (if a.claimed then set vs (number a) None else vs) arguments) (by a.claimed h.0)
    (go_stays p m (if a.claimed then set vs (number a) None else vs) arguments h.1)
  where
    by : (c : Bool) → (c ≡ true → is_lent m (number a) ≡ false) → LentStays m.variables vs (if c then set vs (number a) None else vs)
    by true own = lent_stays_set m.variables vs (number a) None (own refl)
    by false own = lent_stays_same m.variables vs

-- the new frame and the caller together have what the caller had
call_sum : (new us go vs cu cl su sv kept wait held : ℕ) → new ≡ sv → us + cl ≡ vs → go + cu ≡ us → cu ≡ su → su + cl ≡ sv → kept ≡ go
    → held ≡ vs + wait → new + (kept + wait) ≡ held
call_sum new us go vs cu cl su sv kept wait held c1 c2 c3 c4 c5 c6 c7 = omega arith

pub good_call : (p : ProgramModel) (bound : QueueBounds) (w : World) (self choice : ℕ) (f : Frame) (rest : List Frame) (m : MethodModel)
    (place : Place) (method : MethodId) (arguments : List Argument) (target : Option Mention) (next : ℕ)
    → Here p w self f rest m (Call place method arguments target next)
    → ((h : IsGraphFit p m) → IsCallFit p m h.scope f.point method.0 arguments target next)
    → IsGood p w (outcome_from p bound w self f rest (Call place method arguments target next) choice)
good_call p bound w self choice f rest m place method arguments target next h fit =
    let g = fit h.graph in
    let x = g.callee in
    let vs = f.variables in
    let us = let_go vs arguments in
    let types = parameter_types p method.0 in
    let checks = all_arguments m h.row types arguments ++ target_checks m (after_claims h.row arguments) target in
    let after = (next, given_leaf (after_claims h.row arguments) (result_of p method.0) target) ∷ [] in
    let passed = passed_left (all_arguments m h.row types arguments) (target_checks m (after_claims h.row arguments) target)
    (all_pass checks after h.passes) in
    let before = passed_left (given_before [] arguments) (each_argument m h.row types arguments) passed in
    let each : Passed (each_argument m h.row (types_among x.variables) arguments) =
    subst (λ (ks : List HeapType). Passed (each_argument m h.row ks arguments))
    (ap (λ (o : Option MethodModel). option_map_or (λ y. types_among y.variables) o []) g.there)
    (passed_right (given_before [] arguments) (each_argument m h.row types arguments) passed) in
    let apart = pair_apart [] arguments before in
    let args = args_fit p m w.blocks vs h.row (parameters_of x.variables) arguments h.fits g.arguments_fit each in
    let none = go_none vs arguments in
    let same = each_map (λ a. a.claimed ≡ false → NotClaimed arguments (number a))
    (λ a. a.claimed ≡ false → read us (number a) ≡ read vs (number a)) arguments (λ a k own. go_other vs arguments (number a) (k own))
    (lent_not_claimed arguments apart) in
    let e = entered_all m.variables w.blocks vs us h.row x.variables arguments args g.arguments_fit none same in
    let top : Frame = record { method = method.0; point = (graph_of x).first; variables = variables_at_entry x.variables (given_of vs arguments) } in
    let g' : Frame = record { method = f.method; point = f.point; variables = us } in
    let at : instruction_at p g' ≡ Some (Call place method arguments target next) =
    ap (λ (o : Option MethodModel). point_instruction o f.point) h.there ∙ h.at in
    let back : kept_back p g' ≡ let_go us (as_claimed arguments) =
    ap (λ (o : Option Instruction). let_go us (as_claimed (call_arguments o))) at in
    tested_good p w (argument_tests w.blocks self f.variables [] arguments) _
    (arguments_hold p bound w self f rest h.row (types_among x.variables) [] arguments (λ y. top_once p w self f rest y h.holds h.is)
    (λ y v i. top_owned p w self f rest y v h.holds h.is i) apart (none_taken vs arguments) args)
    (subst (λ (t : Frame). IsGood p w (Moved record { processes = set w.processes self (t ∷ g' ∷ rest); blocks = w.blocks }))
    (sym (ap (λ (o : Option MethodModel). entered_at o method.0 (given_of vs arguments)) g.there)) (
      same_holds p w self (top ∷ g' ∷ rest) h.holds (stack_there w.processes self f rest h.is) (
        record {
          m = x;
          there = g.there;
          row = map (λ v. entry_leaf v.role v.ty) x.variables;
          reached =
              entry_reached p method.0 x g.there;
          fits = e.fits;
        },
        (
          record {
            m = m;
            there = h.there;
            callee = x;
            callee_there = g.there;
            place = place;
            arguments = arguments;
            target = target;
            next = next;
            call = at;
            before = h.row;
            reached = h.reached;
            fits = subst (λ (ys : List (Option ℕ)). RowFits w.blocks m.variables ys
                (after_claims (after_claims h.row arguments) (as_claimed arguments))) (sym back)
                (go_fits w.blocks m.variables us (after_claims h.row arguments) (as_claimed arguments)
                (go_fits w.blocks m.variables vs h.row arguments h.fits));
            lent = e.lent;
            long = go_long vs arguments ∙ h.fits.long;
          },
          rest_above p w.blocks f g' m rest h.there refl (go_stays p m vs arguments
              (claims_own p m h.row (parameters_of x.variables) m.variables arguments g.arguments_fit each)) h.below,
        ),
      )
          (λ a.
          let c1 = e.counts a in
          let c2 = go_counts a vs arguments apart in
          let c3 = go_counts a us (as_claimed arguments) (as_claimed_apart arguments apart) in
          let c4 = all_claimed_of a us arguments in
          let c5 = split_of a vs us arguments none same in
          let c6 : standing a (kept_back p g') ≡ standing a (let_go us (as_claimed arguments)) = ap (standing a) back in
          let c7 : held p a (stack_at w.processes self) ≡ standing a vs + waiting p a rest = ap (held p a) h.is in
          call_sum (standing a top.variables) (standing a us) (standing a (let_go us (as_claimed arguments))) (standing a vs)
          (claimed_of a us (as_claimed arguments)) (claimed_of a vs arguments) (standing_of a us arguments) (standing_of a vs arguments)
          (standing a (kept_back p g')) (waiting p a rest) (held p a (stack_at w.processes self)) c1 c2 c3 c4 c5 c6 c7),
      stays_same w.blocks,
    ))
