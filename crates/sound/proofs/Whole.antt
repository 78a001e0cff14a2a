-- If nothing is found every run is safe, by what each instruction preserves.
use Rattle.std.proofs.Common.{◌≡◌, ◌≢◌, ℕ, suc, length, Bool, true, false, List, [], ◌∷◌, Some, None, refl, sym, ap, ◌∙◌, subst, arith, inr}
use Rattle.std.proofs.lemmas.Option.{slice_get_within}
use Rattle.std.specs.Prelude.{Option, slice_get, if◌then◌else◌, nat_lt}
use Rattle.program.specs.Methods.{MethodModel}
use Rattle.program.specs.Programs.{ProgramModel}
use Rattle.program.specs.declared.statement.Action.TheVariants.{Use, Move, Delete, Exchange, NewChannel}
use Rattle.flow.specs.Graphs.{Instruction, Act, New, Send, Switch, Branch, Forget, Call, Start}
use Rattle.flow.specs.Graphs.{Return, Stop}
use Rattle.flow.specs.Lowering.{graph_of}
use Rattle.contracts.specs.TwoEnds.{HeldAlways, NeverLonger}
use Rattle.rules.specs.Breaches.{breach_in}
use Rattle.rules.specs.Outcomes.{said_by}
use Rattle.rules.specs.Steps.{outcome, entry_of}
use Rattle.analyse.specs.Verdicts.{IsMethodVerdict}
use Rattle.machine.specs.Frames.{method_at, instruction_at, point_instruction, choices}
use Rattle.machine.specs.Machine.{outcome_of, outcome_in, event_outcome}
use Rattle.machine.specs.Outcomes.{Outcome, NoChoice, QueueBounds}
use Rattle.machine.specs.Runs.{AreBounds, Run, begins, goes_on}
use Rattle.machine.specs.World.{Block, Frame, World, block_at, stack_at, owns, read}
use Rattle.machine.specs.declared.halts.Event.{Event}
use Rattle.sound.specs.GraphFit.{IsGraphFit, AreGraphsFit, IsFit}
use Rattle.sound.specs.Premises.{AreSound, IsEntry, NothingIsFound}
use Rattle.program.specs.WellFormed.{AreWellFormed}
use Rattle.sound.proofs.Contracts.{sound_program}
use Rattle.sound.proofs.Trees.{graphs_fit}
use Rattle.sound.specs.GraphSafe.{IsSafe}
use Rattle.sound.specs.Safe.{FieldsOwn}
use Rattle.program.specs.WellFormed.{field_types}
use Rattle.program.specs.declared.types.HeapType.{HeapType}
use Rattle.machine.specs.Heaps.{FieldsHold}
use Rattle.machine.proofs.Chains.{is_inside_is}
use Rattle.machine.proofs.Holding.{inside_not_process}
use Rattle.sound.proofs.Lists.{each_map}
use Rattle.sound.proofs.events.Beginning.{start_holds}
use Rattle.sound.proofs.events.Exchanging.{good_exchange}
use Rattle.sound.proofs.events.Making.{good_new}
use Rattle.sound.proofs.events.Calling.{good_call}
use Rattle.sound.proofs.Checks.{reached_more, IsClean}
use Rattle.sound.proofs.events.Deleting.{good_delete}
use Rattle.sound.proofs.Invariant.{TopFits, RestFits, StackFits, Holds, held, one_if, IsSoundProgram, AreDeclared, FieldsDeclared}
use Rattle.sound.proofs.events.Opening.{good_channel}
use Rattle.sound.proofs.blocks.Owning.{owns_what}
use Rattle.sound.proofs.Queues.{queues_are_walks}
use Rattle.sound.proofs.Quiet.{good_use, good_branch, good_forget, good_move}
use Rattle.sound.proofs.events.Returning.{good_return}
use Rattle.sound.proofs.events.Sending.{good_send}
use Rattle.sound.proofs.events.Starting.{good_start}
use Rattle.sound.proofs.events.Switching.{good_switch}
use Rattle.sound.proofs.Reaching.{reached_none}
use Rattle.sound.proofs.Here.{IsGood, Here, step_is}
use Rattle.machine.specs.Instructions.{outcome_from}
use Rattle.machine.proofs.ChangeLemmas.{true≢false}

-- a process that has ended owns nothing
ended_has_nothing : (p : ProgramModel) (w : World) → Holds p w → (q a : ℕ) → stack_at w.processes q ≡ [] → owns w.blocks q a ≡ false
ended_has_nothing p w h q a is = by (owns w.blocks q a) (sym (ap (held p a) is) ∙ h.own q a)
  where
    by : (b : Bool) → 0 ≡ one_if b → b ≡ false
    by true e = absurd (omega arith)
    by false e = refl

-- if a verdict is empty, no step at a reached pair has a finding
clean : (p : ProgramModel) (n : ℕ) → IsMethodVerdict p n [] → IsClean p n
clean p n h f finds =
    let none = (h.exactly f).1 (inr ((λ many. let one = h.once many in absurd (omega arith)), finds)) in
    absurd (let short = none.1 in omega arith)

here : (p : ProgramModel) (w : World) (self : ℕ) (f : Frame) (rest : List Frame) (i : Instruction) → AreGraphsFit p → IsClean p f.method
    → Holds p w → stack_at w.processes self ≡ f ∷ rest → (t : TopFits p w.blocks f)
    → RestFits p w.blocks f rest → instruction_at p f ≡ Some i → Here p w self f rest t.m i
here p w self f rest i graphs none h is t below at =
    let point : slice_get (graph_of t.m).instructions f.point ≡ Some i = sym (ap (λ x. point_instruction x f.point) t.there) ∙ at in
    let says = breach_in p f.method in
    let same = step_is p f t.m i t.row t.there point in
    let graph = graphs.each f.method t.m t.there in
    record {
      holds = h;
      is = is;
      there = t.there;
      at = point;
      row = t.row;
      reached = t.reached;
      fits = t.fits;
      below = below;
      graph = graph;
      none = λ v out. reached_none p f.method t.m graph t.there (f.point, t.row) t.reached v out;
      passes = λ breach e. none (says breach) (record { at = (f.point, t.row); reached = t.reached; fails = ap (said_by says) (same ∙ e) });
      onward = λ all y e has. reached_more (outcome p f.method) (entry_of p f.method) (f.point, t.row) y all t.reached
          (ap (said_by says) (same ∙ e)) has;
    }

good_instruction : HeldAlways → NeverLonger → (p : ProgramModel) (bound : QueueBounds) → IsSoundProgram p bound → AreGraphsFit p
    → ((n : ℕ) (x : MethodModel) → method_at p n ≡ Some x → IsClean p n)
    → (w : World) (self choice : ℕ) (f : Frame) (rest : List Frame) (m : MethodModel) (i : Instruction)
    → Here p w self f rest m i → ((h : IsGraphFit p m) → IsFit p m h.scope f.point i) → IsGood p w (outcome_from p bound w self f rest i choice)
good_instruction always longer p bound sound graphs none w self choice f rest m (Act (Use v) next) h fit =
    good_use p bound w self choice f rest m v next h
good_instruction always longer p bound sound graphs none w self choice f rest m (New v arguments next) h fit =
    good_new p bound w self choice f rest m v arguments next h fit
good_instruction always longer p bound sound graphs none w self choice f rest m (Act (Move v u) next) h fit =
    good_move p bound w self choice f rest m v u next h fit
good_instruction always longer p bound sound graphs none w self choice f rest m (Act (Delete v) next) h fit =
    good_delete p bound w self choice f rest m v next h
good_instruction always longer p bound sound graphs none w self choice f rest m (Act (Exchange e) next) h fit =
    good_exchange p bound w self choice f rest m e next h fit
good_instruction always longer p bound sound graphs none w self choice f rest m (Act (NewChannel c) next) h fit =
    good_channel p bound w self choice f rest m c next h (fit h.graph)
good_instruction always longer p bound sound graphs none w self choice f rest m (Send place e message payloads next) h fit =
    good_send p bound w self choice f rest m longer sound place e message payloads next h (fit h.graph)
good_instruction always longer p bound sound graphs none w self choice f rest m (Switch place cases) h fit =
    good_switch p bound w self choice f rest m always sound place cases h (fit h.graph)
good_instruction always longer p bound sound graphs none w self choice f rest m (Branch place branches) h fit =
    good_branch p bound w self choice f rest m place branches h
good_instruction always longer p bound sound graphs none w self choice f rest m (Forget g next) h fit =
    good_forget p bound w self choice f rest m g next h fit
good_instruction always longer p bound sound graphs none w self choice f rest m (Call place method arguments target next) h fit =
    good_call p bound w self choice f rest m place method arguments target next h fit
good_instruction always longer p bound sound graphs none w self choice f rest m (Start place method arguments next) h fit =
    good_start p bound w self choice f rest m place method arguments next h (fit h.graph)
good_instruction always longer p bound sound graphs none w self choice f rest m (Return place value last) h fit =
    good_return p bound w self choice f rest m place value last graphs none h (fit h.graph)
good_instruction always longer p bound sound graphs none w self choice f rest m (Stop place) h fit = absurd (h.passes _ refl)

-- addresses as declared are as many as their types
declared_long : (bs : List Block) (types : List HeapType) (xs : List ℕ) → AreDeclared bs types xs → length xs ≡ length types
declared_long bs [] [] h = refl
declared_long bs [] (x ∷ xs) h = absurd h
declared_long bs (k ∷ types) [] h = absurd h
declared_long bs (k ∷ types) (x ∷ xs) h = ap suc (declared_long bs types xs h.1)

-- fields that hold what is inside their block and are as declared own it
fields_own : (p : ProgramModel) (bs : List Block) → FieldsHold bs → FieldsDeclared p bs → FieldsOwn p bs
fields_own p bs held were = record {
  full = λ a within lives. declared_long bs (field_types p.structs (block_at bs a).ty) (block_at bs a).fields (were a within lives);
  once = held.holds_are;
  rooted = held.rooted;
  alive = held.alive;
}

-- in a world with the invariant every event is good
module _ (always : HeldAlways) (longer : NeverLonger) (p : ProgramModel) (bound : QueueBounds) (sound : IsSoundProgram p bound)
    (graphs : AreGraphsFit p) (none : (n : ℕ) (m : MethodModel) → method_at p n ≡ Some m → IsClean p n) where
  good_at : (w : World) (e : Event) (f : Frame) (rest : List Frame) → Holds p w → stack_at w.processes e.process ≡ f ∷ rest
      → (t : TopFits p w.blocks f) → RestFits p w.blocks f rest → (x : Option Instruction) → instruction_at p f ≡ x
      → IsGood p w (outcome_of p bound w e f rest x)
  good_at w e f rest h is t below None at = tt
  good_at w e f rest h is t below (Some i) at = by (nat_lt e.choice (choices i))
    where
      by : (b : Bool) → IsGood p w (if b then outcome_from p bound w e.process f rest i e.choice else NoChoice)
      by true =
          let point : slice_get (graph_of t.m).instructions f.point ≡ Some i = sym (ap (λ x. point_instruction x f.point) t.there) ∙ at in
          good_instruction always longer p bound sound graphs none w e.process e.choice f rest t.m i
          (here p w e.process f rest i graphs (none f.method t.m t.there) h is t below at) (λ g. g.fits f.point i point)
      by false = tt

  good_in : (w : World) (e : Event) (fs : List Frame) → Holds p w → stack_at w.processes e.process ≡ fs → StackFits p w.blocks fs
      → IsGood p w (outcome_in p bound w e fs)
  good_in w e [] h is fits = tt
  good_in w e (f ∷ rest) h is fits = good_at w e f rest h is fits.0 fits.1 (instruction_at p f) refl

  good : (w : World) (e : Event) → Holds p w → IsGood p w (event_outcome p bound w e)
  good w e h = good_in w e (stack_at w.processes e.process) h refl (h.stacks e.process)

  run_holds : (m : ℕ) (w : World) → IsEntry p m → Run p bound m w → Holds p w
  run_holds m w entry begins = start_holds p m graphs entry
  run_holds m x entry (goes_on w v e run moved) = (subst (λ (o : Outcome). IsGood p w o) moved (good w e (run_holds m w entry run))).0

  safe : (w : World) → Holds p w → IsSafe p bound w
  safe w h = record {
    no_fault = λ e f faulty. subst (λ (o : Outcome). IsGood p w o) faulty (good w e h);
    queues = queues_are_walks always p bound sound w h.channels;
    holds = λ q v a. (owns_what p none w h q).holds v a;
    once = λ q a owned. (owns_what p none w h q).once a owned;
    apart = λ q v a b inside. each_map (λ f. read f.variables v ≡ Some a → owns w.blocks q a ≡ true) (λ f. read f.variables v ≢ Some a)
        (stack_at w.processes q) (λ f own is. true≢false (own is)
        (inside_not_process (block_at w.blocks a).owner b q (is_inside_is (block_at w.blocks a).owner b inside)))
        ((owns_what p none w h q).holds v a);
    fields = fields_own p w.blocks h.held h.declared;
    stays_cut_off = λ e v a moved within cut. (subst (λ (o : Outcome). IsGood p w o) moved (good w e h)).1.each a within cut;
    ended = λ q a is. ended_has_nothing p w h q a is;
  }

-- if nothing is found, every run is safe
pub empty_report_is_safe : HeldAlways → NeverLonger → (p : ProgramModel) (bound : QueueBounds)
    → AreWellFormed p → AreSound p → AreBounds p bound → NothingIsFound p
    → (n : ℕ) (w : World) → IsEntry p n → Run p bound n w → IsSafe p bound w
empty_report_is_safe always longer p bound well sound bounds nothing n w entry run =
    let graphs = graphs_fit p well in
    let program = sound_program p bound sound bounds in
    let none : (k : ℕ) (x : MethodModel) → method_at p k ≡ Some x → IsClean p k =
    λ k x there. clean p k (nothing k (slice_get_within p.methods k x there))
    in
    safe always longer p bound program graphs none w (run_holds always longer p bound program graphs none n w entry run)
