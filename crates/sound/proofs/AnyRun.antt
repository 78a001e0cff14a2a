-- In every run queues are walks and keep within their bounds, whatever is found.
use Rattle.std.proofs.Common.{◌≡◌, ◌≢◌, ◌==◌, ℕ, ◌+◌, ◌≤◌, Bool, true, false, List, [], ◌∷◌, ◌++◌, Some, None, length, refl, sym, ap, ◌∙◌}
use Rattle.std.proofs.Common.{subst, arith}
use Rattle.std.proofs.lemmas.List.{length-map}
use Rattle.std.specs.Option.{option_map_or}
use Rattle.std.specs.Prelude.{Option, slice_get, if◌then◌else◌, nat_lt}
use Rattle.program.specs.Lists.{is_among}
use Rattle.program.specs.Methods.{MethodModel, VariableModel}
use Rattle.program.specs.Parts.{ContractModel}
use Rattle.program.specs.Programs.{ProgramModel}
use Rattle.program.specs.WellFormed.{is_end}
use Rattle.program.specs.declared.types.Side.TheVariants.{Imp, Exp}
use Rattle.program.specs.declared.types.Side.{Side}
use Rattle.program.specs.declared.number.MessageId.{MessageId}
use Rattle.program.specs.declared.statement.Channel as channel
use Rattle.program.specs.declared.statement.Exchange as stated
use Rattle.program.specs.declared.statement.Mention.{Mention}
use Rattle.program.specs.declared.statement.Action.TheVariants.{Use, Move, Delete, Exchange, NewChannel}
use Rattle.flow.specs.Graphs.{Instruction, Act, New, Send, Switch, Branch, Forget, Call, Start}
use Rattle.flow.specs.Graphs.{Return, Stop}
use Rattle.flow.specs.Lowering.{graph_of}
use Rattle.contracts.specs.Bounds.{sign_to}
use Rattle.contracts.specs.TwoEnds.{HeldAlways, NeverLonger}
use Rattle.rules.specs.Endpoints.{first_state}
use Rattle.machine.specs.Blocks.{with_new_owner, is_own_still, new_block, owns_none, end_type, argument_tests, send_tests}
use Rattle.machine.specs.Frames.{method_at, variables_of, type_at, payloads_claimed, address, addresses, choices, point_instruction}
use Rattle.machine.specs.Machine.{outcome_of, outcome_in}
use Rattle.machine.specs.Machine.{event_outcome}
use Rattle.machine.specs.Outcomes.{Outcome, NoChoice, QueueBounds, after_tests}
use Rattle.machine.specs.Runs.{Run, begins, goes_on}
use Rattle.machine.specs.World.{no_type, MessageHeld, Block, Frame, World, block_at, stack_at, change_each, read, owns, let_go, is_own}
use Rattle.machine.specs.Heaps.{top}
use Rattle.machine.specs.declared.worlds.Owner.TheVariants.{Inside}
use Rattle.machine.specs.declared.halts.Event.{Event}
use Rattle.machine.specs.declared.halts.Fault.TheVariants.{F1, F2, F3, F7}
use Rattle.sound.specs.GraphFit.{AreGraphsFit, IsFit, ScopeAt}
use Rattle.sound.specs.Operands.{stateless}
use Rattle.sound.specs.GraphSafe.{IsBounded}
use Rattle.sound.specs.Queues.{IsLiveEnd}
use Rattle.sound.proofs.Contracts.{sound_program}
use Rattle.sound.proofs.Arguments.{or_false}
use Rattle.sound.proofs.blocks.Blocks.{queues_append}
use Rattle.sound.proofs.blocks.NewBlock as made
use Rattle.sound.proofs.events.Giving.{given_counts, payloads_claim}
use Rattle.sound.proofs.Invariant.{one_if, standing_in, ChannelsFit, IsSoundProgram}
use Rattle.sound.proofs.blocks.NewEnds as opened
use Rattle.sound.proofs.Queues.{queues_are_walks}
use Rattle.sound.proofs.events.Sending.{channel_of}
use Rattle.sound.proofs.blocks.AnyBlocks.{AreGiven, IsFine, RunFits, delete_fits, exchange_fits, given_fine, given_mine, given_once, one_test}
use Rattle.sound.proofs.blocks.AnyBlocks.{own_at, still_own, plain_append, start_fits, tested_append}
use Rattle.sound.proofs.events.AnyEvent.{send_fine, switch_fine}
use Rattle.program.specs.WellFormed.{AreWellFormed}
use Rattle.sound.specs.Premises.{AreSound}
use Rattle.machine.specs.Runs.{AreBounds}
use Rattle.sound.proofs.Trees.{graphs_fit}
use Rattle.machine.specs.Instructions.{value_tests, returns, outcome_from, exchanges}
use Rattle.machine.proofs.ChangeLemmas.{eqb_same, true≢false}

-- required of an instruction, whatever is found: a new block is no endpoint, and the contract of a new channel exists
abbrev pub IsMadeWell : ProgramModel → MethodModel → Instruction → Type 0
IsMadeWell p m (New v arguments next) = is_end (type_at m.variables v.variable.0) ≡ false
IsMadeWell p m (Act (NewChannel c) next) = (x : ContractModel) × (slice_get p.contracts c.contract.0 ≡ Some x)
IsMadeWell p m _ = Unit {0}

pub record AreMadeWell (p : ProgramModel) : Type 0 where
  pub each : (n : ℕ) (m : MethodModel) (point : ℕ) (i : Instruction) → method_at p n ≡ Some m
      → slice_get (graph_of m).instructions point ≡ Some i → IsMadeWell p m i

module _ (p : ProgramModel) (bound : QueueBounds) (w : World) (self : ℕ) (f : Frame) (rest : List Frame) (h : RunFits p w.blocks) where
  -- ---- Return
  returns_fine : (value : Option Mention) (fs : List Frame) → IsFine p (returns p bound w self f rest value fs)
  returns_fine value [] = one_test p (owns_none w.blocks self) F7 [] _ (λ e. tt) (λ e. h)
  returns_fine None (g ∷ more) = h
  returns_fine (Some v) (g ∷ more) = h

  value_fine : (value : Option Mention)
      → IsFine p (after_tests (value_tests p bound w self f rest value) (returns p bound w self f rest value rest))
  value_fine None = returns_fine None rest
  value_fine (Some v) =
      one_test p (is_own w.blocks self (read f.variables v.variable.0)) F3 [] _ (λ e. tt) (λ e. returns_fine (Some v) rest)

  -- ---- every instruction
  once_given : (payloads : List Mention) → AreGiven p bound w self f rest h [] (payloads_claimed payloads) → (x : ℕ)
      → standing_in x (addresses f.variables (payloads_claimed payloads)) ≡
      one_if (is_among (addresses f.variables (payloads_claimed payloads)) x)
  once_given payloads given x =
      given_counts (addresses f.variables (payloads_claimed payloads)) x
      (given_once p bound w self f rest h [] (payloads_claimed payloads) (payloads_claim payloads) given x).1

  new_fits : (m : MethodModel) (v : Mention) (arguments : List Mention) → method_at p f.method ≡ Some m
      → is_end (type_at m.variables v.variable.0) ≡ false → AreGiven p bound w self f rest h [] (payloads_claimed arguments)
      → RunFits p (change_each (with_new_owner (Inside (length w.blocks)) (addresses f.variables (payloads_claimed arguments))) w.blocks
      ++ new_block (type_at (variables_of p f.method) v.variable.0) self 0 0 (addresses f.variables (payloads_claimed arguments)) ∷ [])
  new_fits m v arguments there plain given =
      let xs = addresses f.variables (payloads_claimed arguments) in
      let k = type_at (variables_of p f.method) v.variable.0 in
      let no_end : is_end k ≡ false = ap (λ (o : Option MethodModel). is_end
      (type_at (option_map_or (λ x. x.variables) o []) v.variable.0)) there ∙ plain in
      let mine = given_mine p bound w self f rest h [] (payloads_claimed arguments) given in
      record {
        fits = made.fits_now p w self h.fits xs k mine (once_given arguments given) no_end;
        plain = made.plain_now p w self h.fits xs k mine (once_given arguments given) no_end h.plain;
      }

  exchanges_fine : (e : stated.Exchange) (next : ℕ) (held : Option ℕ)
      → slice_get (block_at w.blocks (address (read f.variables e.holder.variable.0))).fields e.field ≡ held
      → owns w.blocks self (address (read f.variables e.holder.variable.0)) ≡ true
      → owns w.blocks self (address (read f.variables e.given.variable.0)) ≡ true
      → address (read f.variables e.given.variable.0) ≢ address (read f.variables e.holder.variable.0)
      → IsFine p (exchanges p bound w self f rest e next held)
  exchanges_fine e next None is own_at own_given apart = h
  exchanges_fine e next (Some held) is own_at own_given apart =
      exchange_fits p bound w self f rest h (address (read f.variables e.holder.variable.0)) e.field
      (address (read f.variables e.given.variable.0)) held own_at own_given apart is

  channel_fits : (c : channel.Channel) (held : ContractModel) → slice_get p.contracts c.contract.0 ≡ Some held
      → RunFits p (w.blocks ++ new_block (end_type c Imp) self (length w.blocks + 1) (first_state p c.contract.0) []
      ∷ new_block (end_type c Exp) self (length w.blocks) (first_state p c.contract.0) [] ∷ [])
  channel_fits c held there =
      let more = new_block (end_type c Imp) self (length w.blocks + 1) (first_state p c.contract.0) []
      ∷ new_block (end_type c Exp) self (length w.blocks) (first_state p c.contract.0) [] ∷ [] in
      let fresh = opened.fresh p w.blocks self c held there h.fits.channels in
      record {
        fits = record {
          channels = opened.channels_now p w.blocks self c held there h.fits.channels;
          queues =
              queues_append self w.blocks more fresh h.fits.queues;
          held = opened.held_now p w.blocks self c held there h.fits.channels h.fits.held;
        };
        plain = plain_append self w.blocks more fresh h.plain;
      }

  module _ (always : HeldAlways) (longer : NeverLonger) (sound : IsSoundProgram p bound) (m : MethodModel)
      (there : method_at p f.method ≡ Some m) where
    instruction_fine : (i : Instruction) (choice : ℕ) → IsMadeWell p m i → IsFine p (outcome_from p bound w self f rest i choice)
    instruction_fine (Act (Use v) next) choice fit =
        one_test p (is_own w.blocks self (read f.variables v.variable.0)) F1 [] _ (λ e. tt) (λ e. h)
    instruction_fine (New v arguments next) choice fit =
        given_fine p bound w self f rest h [] (payloads_claimed arguments) _ (λ given. new_fits m v arguments there fit given)
    instruction_fine (Act (Exchange e) next) choice fit =
        let x = read f.variables e.holder.variable.0 in
        let y = read f.variables e.given.variable.0 in
        one_test p (is_own w.blocks self x) F1 _ _ (λ k. tt)
        (λ k. let o = own_at p bound w self f rest h x k in
        one_test p (is_own_still w.blocks self (address x ∷ []) y) F3 [] _ (λ l. tt)
        (λ l. let s = still_own p bound w self f rest h (address x ∷ []) y l in
        exchanges_fine e next (slice_get (block_at w.blocks (address x)).fields e.field) refl
        (ap (λ (z : Option ℕ). owns w.blocks self (address z)) o.is ∙ o.owned) s.0
        (λ same. true≢false (eqb_same (address x) (address y) (sym same)) (or_false (address x == address y) false s.1).0)))
    instruction_fine (Act (NewChannel c) next) choice fit = channel_fits c fit.0 fit.1
    instruction_fine (Act (Move v u) next) choice fit =
        one_test p (is_own w.blocks self (read f.variables u.variable.0)) F1 [] _ (λ e. tt) (λ e. h)
    instruction_fine (Act (Delete v) next) choice fit =
        one_test p (is_own w.blocks self (read f.variables v.variable.0)) F2 [] _ (λ e. tt)
        (λ e. let o = own_at p bound w self f rest h (read f.variables v.variable.0) e in delete_fits p bound w self f rest h
        (address (read f.variables v.variable.0)) (ap (λ (x : Option ℕ). owns w.blocks self (address x)) o.is ∙ o.owned))
    instruction_fine (Send place e message payloads next) choice fit =
        let x = read f.variables e.variable.0 in
        let args = payloads_claimed payloads in
        let msg : MessageHeld = record { message = message.0; payload = addresses f.variables args } in
        one_test p (is_own w.blocks self x) F1 _ _ (λ k. tt)
        (λ k. let o = own_at p bound w self f rest h x k in
        subst (λ (z : Outcome). IsFine p z) (sym (tested_append (argument_tests w.blocks self f.variables [] args)
        (send_tests p bound w.blocks (address x) message.0) _))
        (given_fine p bound w self f rest h [] args _ (λ given. send_fine p bound w self f rest h longer sound (address x) msg
        (let_go f.variables args) next (ap (λ (x : Option ℕ). owns w.blocks self (address x)) o.is ∙ o.owned)
        (given_mine p bound w self f rest h [] args given) (once_given payloads given))))
    instruction_fine (Switch place cases) choice fit = switch_fine p bound w self f rest h always sound cases place choice
    instruction_fine (Branch place branches) choice fit = h
    instruction_fine (Forget g next) choice fit = h
    instruction_fine (Call place method arguments target next) choice fit = given_fine p bound w self f rest h [] arguments _ (λ given. h)
    instruction_fine (Start place method arguments next) choice fit =
        given_fine p bound w self f rest h [] arguments _ (λ given. start_fits p bound w self f rest h (addresses f.variables arguments)
        (given_mine p bound w self f rest h [] arguments given))
    instruction_fine (Return place value last) choice fit = value_fine value
    instruction_fine (Stop place) choice fit = returns_fine None rest

-- ---- runs
module _ (always : HeldAlways) (longer : NeverLonger) (p : ProgramModel) (bound : QueueBounds) (sound : IsSoundProgram p bound)
    (made_well : AreMadeWell p) where
  fine_at : (w : World) (e : Event) (f : Frame) (rest : List Frame) → RunFits p w.blocks → (x : Option MethodModel)
      → method_at p f.method ≡ x → IsFine p (outcome_of p bound w e f rest (point_instruction x f.point))
  fine_at w e f rest h None there = tt
  fine_at w e f rest h (Some m) there = by (slice_get (graph_of m).instructions f.point) refl
    where
      chosen : (b : Bool) (i : Instruction) → slice_get (graph_of m).instructions f.point ≡ Some i
          → IsFine p (if b then outcome_from p bound w e.process f rest i e.choice else NoChoice)
      chosen true i at = instruction_fine p bound w e.process f rest h always longer sound m there i e.choice
          (made_well.each f.method m f.point i there at)
      chosen false i at = tt

      by : (x : Option Instruction) → slice_get (graph_of m).instructions f.point ≡ x → IsFine p (outcome_of p bound w e f rest x)
      by None at = tt
      by (Some i) at = chosen (nat_lt e.choice (choices i)) i at

  fine_in : (w : World) (e : Event) (fs : List Frame) → RunFits p w.blocks → IsFine p (outcome_in p bound w e fs)
  fine_in w e [] h = tt
  fine_in w e (f ∷ rest) h = fine_at w e f rest h (method_at p f.method) refl

  fine : (w : World) (e : Event) → RunFits p w.blocks → IsFine p (event_outcome p bound w e)
  fine w e h = fine_in w e (stack_at w.processes e.process) h

  run_fits : (m : ℕ) (w : World) → Run p bound m w → RunFits p w.blocks
  run_fits m w begins = record {
    fits = record {
      channels =
          record { imp = λ a c within is. absurd (omega arith); exp = λ a c within is. absurd (omega arith) };
      queues = λ a x. refl;
      held = record { holds_are = λ a j. refl; rooted = λ x. top x (λ b. refl); alive = λ j a e. refl };
    };
    plain = λ a no_end. refl;
  }
  run_fits m v (goes_on w u e run moved) = subst (λ (o : Outcome). IsFine p o) moved (fine w e (run_fits m w run))

-- a queue is no longer than its bound
short : NeverLonger → (p : ProgramModel) (bound : QueueBounds) → IsSoundProgram p bound → (bs : List Block) → ChannelsFit p bs
    → (a c : ℕ) (side : Side) → IsLiveEnd bs a c side → length (block_at bs a).queue ≤ bound c side
short longer p bound sound bs channels a c side live =
    let ch = channel_of p bs a c side channels live.there live.lives (ap stateless live.ty) in
    let most = longer ch.contract.parts ch.ends.n ch.ends.ends (sign_to side) (bound c side) (sound.whole c ch.contract ch.there)
    (sound.sound c ch.contract ch.there) (sound.bounds c ch.contract side ch.there) ch.ends.moves in
    let same = ap length ch.ends.mine.queue in
    let l1 = length-map (ch.ends.ends.queue (sign_to side)) (λ (n : MessageId). n.0) in
    let l2 = length-map (block_at bs a).queue (λ (m : MessageHeld). m.message) in
    omega arith

-- an instruction that fits makes well
fit_made : (p : ProgramModel) (m : MethodModel) (scope : ScopeAt) (point : ℕ) (i : Instruction) → IsFit p m scope point i → IsMadeWell p m i
fit_made p m scope point (New v arguments next) fit =
    ap (λ (o : Option VariableModel). is_end (option_map_or (λ x. x.ty) o no_type)) fit.there ∙ fit.block
fit_made p m scope point (Act (NewChannel c) next) fit = (fit.contract, fit.contract_there)
fit_made p m scope point _ fit = tt

made_well : (p : ProgramModel) → AreGraphsFit p → AreMadeWell p
made_well p graphs = record {
  each = λ n m point i there at.
      let g = graphs.each n m there in
      fit_made p m g.scope point i (g.fits point i at);
}

-- in every run queues are walks, and no send exceeds the bound of a queue
pub runs_are_bounded : HeldAlways → NeverLonger → (p : ProgramModel) (bound : QueueBounds)
    → AreWellFormed p → AreSound p → AreBounds p bound
    → (n : ℕ) (w : World) → Run p bound n w → IsBounded p bound w
runs_are_bounded always longer p bound well sound bounds n w run =
    let program = sound_program p bound sound bounds in
    let made = made_well p (graphs_fit p well) in
    let h = run_fits always longer p bound program made n w run in
    record {
      queues = queues_are_walks always p bound program w h.fits.channels;
      short = short longer p bound program w.blocks h.fits.channels;
      fits = λ e faulty. subst (λ (o : Outcome). IsFine p o) faulty (fine always longer p bound program made w e h);
    }
