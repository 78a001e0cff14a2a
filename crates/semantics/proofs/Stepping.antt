-- An event of a process has the same outcome in both machines.
use Rattle.std.proofs.Common.{◌≡◌, ℕ, Bool, true, false, List, [], ◌∷◌, ◌++◌, length, map, refl, sym, ap, subst, Some, None, set}
use Rattle.std.specs.Prelude.{Option, if◌then◌else◌, ◌==◌, nat_lt, slice_get}
use Rattle.program.specs.Programs.{ProgramModel}
use Rattle.program.specs.Statements as stated
use Rattle.program.specs.declared.number.VarId.{VarId}
use Rattle.program.specs.declared.statement as made
use Rattle.program.specs.declared.statement.Action.TheVariants as does
use Rattle.program.specs.declared.statement.Mention.{Mention}
use Rattle.program.specs.declared.statement.Ways.{Ways}
use Rattle.program.specs.declared.statement.Ways.TheVariants.{Either, Body, Past}
use Rattle.source.specs.declared.place.Place.{Place}
use Rattle.flow.specs.Cases.{EntranceModel, case_for}
use Rattle.flow.specs.Graphs as graphs
use Rattle.flow.specs.Graphs.{Instruction}
use Rattle.flow.specs.Lowering.{block, branches}
use Rattle.semantics.specs.Laid.{AreAt}
use Rattle.semantics.specs.Rests.{Rest, Act, New, Send, Switch, If, While, Forget, Call, Start, Return, Stop, Missing, Arms, loop, turn}
use Rattle.semantics.proofs.Standing.{block_means, reads_at}
use Rattle.machine.specs.Blocks.{argument_tests, is_own_still, owns_none, send_tests, exchanged_block, received_block, with_new_owner}
use Rattle.machine.specs.Blocks.{state_after_receive}
use Rattle.machine.specs.Frames as graph_frames
use Rattle.machine.specs.Frames.{address, addresses, bound_to, method_at, payloads_claimed, point_instruction, put}
use Rattle.machine.specs.Instructions as graph_steps
use Rattle.machine.specs.Machine.{outcome_of}
use Rattle.machine.specs.Outcomes as graph
use Rattle.machine.specs.Outcomes.{FaultTest, QueueBounds, test}
use Rattle.machine.specs.World as graph_world
use Rattle.machine.specs.World.{Block, MessageHeld, block_at, change_each, is_freed_at, is_own, let_go, read}
use Rattle.machine.specs.declared.halts.Fault.TheVariants.{F1, F2, F3, F7}
use Rattle.machine.specs.declared.worlds.Owner.TheVariants.{Process}
use Rattle.semantics.proofs.Matching.{IsCase, case_same, mentions_same}
use Rattle.semantics.proofs.Stacks.{Alike, after_alike, append_same, entry_same, if_alike, next_same, same_count, set_same, target_same}
use Rattle.semantics.specs.Same.{AreStacks, AreWaiting, IsCall, IsFrame, Stands}
use Rattle.semantics.specs.Steps as steps
use Rattle.semantics.specs.Worlds.{Arm, Frame, Outcome, NoChoice, Waits, World, call_next, call_target, after_tests, arm_for, choices, first_mentions, way, ways_of}

module _ (p : ProgramModel) (bound : QueueBounds) (fs : List (List graph_world.Frame)) (ss : List (List Frame)) (bs : List Block)
    (self n point : ℕ) (vs : List (Option ℕ)) (gs : List graph_world.Frame) (ts : List Frame)
    (same : AreStacks p fs ss) (waits : AreWaiting p gs ts) where
  abbrev w : graph_world.World
  w = record { processes = fs; blocks = bs }

  abbrev s : World
  s = record { processes = ss; blocks = bs }

  abbrev f : graph_world.Frame
  f = record { method = n; point = point; variables = vs }

  abbrev t : Rest → Frame
  t r = record { method = n; rest = r; variables = vs }

  abbrev at : ℕ → Option Instruction
  at = point_instruction (method_at p n)

  abbrev on_graph : ℕ → List (Option ℕ) → List Block → graph.Outcome
  on_graph = graph_steps.on p bound w self f gs

  abbrev on_rest : Rest → Rest → List (Option ℕ) → List Block → Outcome
  on_rest r = steps.on p bound s self (t r) ts

  on_alike : (r : Rest) (to : ℕ) (next : Rest) (xs : List (Option ℕ)) (blocks : List Block) → Stands p n to next
      → Alike p (on_graph to xs blocks) (on_rest r next xs blocks)
  on_alike r to next xs blocks h = record {
    is = record {
      processes =
          set_same p fs ss self (record { method = n; point = to; variables = xs } ∷ gs) (record { method = n; rest = next; variables = xs } ∷ ts)
          same (record { is = refl; stands = h }, waits);
      blocks = refl;
    };
  }

  -- ---- a frame that ends
  resumed : (g : graph_world.Frame) (u : Frame) (x : Option ℕ) → IsFrame p g u → IsCall u.rest
      → IsFrame p
      (record {
        method = g.method;
        point = graph_frames.call_next (graph_frames.instruction_at p g);
        variables = put g.variables (graph_frames.call_target (graph_frames.instruction_at p g)) x;
      })
      (record { method = u.method; rest = call_next u.rest; variables = put u.variables (call_target u.rest) x })
  resumed g u x h c =
      let point_after : ℕ = graph_frames.call_next (point_instruction (method_at p u.method) g.point) in
      subst (λ (y : graph_world.Frame). IsFrame p
      (record {
        method = y.method;
        point = graph_frames.call_next (graph_frames.instruction_at p y);
        variables = put y.variables (graph_frames.call_target (graph_frames.instruction_at p y)) x;
      })
      (record { method = u.method; rest = call_next u.rest; variables = put u.variables (call_target u.rest) x })) (sym h.is)
      (record {
        is = ap (λ (o : Option Mention). record { method = u.method; point = point_after; variables = put u.variables o x })
            (target_same p u.method g.point u.rest c h.stands);
        stands = next_same p u.method g.point u.rest c h.stands;
      })

  goes_on : (g : graph_world.Frame) (u : Frame) → IsFrame p g u → IsCall u.rest
      → IsFrame p
      (record {
        method = g.method;
        point = graph_frames.call_next (graph_frames.instruction_at p g);
        variables = g.variables;
      })
      (record { method = u.method; rest = call_next u.rest; variables = u.variables })
  goes_on g u h c =
      subst (λ (y : graph_world.Frame). IsFrame p
      (record {
        method = y.method;
        point = graph_frames.call_next (graph_frames.instruction_at p y);
        variables = y.variables;
      })
      (record { method = u.method; rest = call_next u.rest; variables = u.variables })) (sym h.is)
      (record { is = refl; stands = next_same p u.method g.point u.rest c h.stands })

  returns_alike : (r : Rest) (value : Option Mention) (more : List graph_world.Frame) (others : List Frame) → AreWaiting p more others
      → Alike p (graph_steps.returns p bound w self f gs value more) (steps.returns p bound s self (t r) ts value others)
  returns_alike r value [] [] h =
      after_alike p (test (owns_none bs self) F7 ∷ [])
      (record { is = record { processes = set_same p fs ss self [] [] same tt; blocks = refl } })
  returns_alike r value [] (u ∷ others) h = absurd h
  returns_alike r value (g ∷ more) [] h = absurd h
  returns_alike r None (g ∷ more) (u ∷ others) h = record {
    is = record {
      processes = set_same p fs ss self _ _ same (goes_on g u h.0 h.1.0, h.1.1);
      blocks = refl;
    };
  }
  returns_alike r (Some v) (g ∷ more) (u ∷ others) h = record {
    is = record {
      processes = set_same p fs ss self _ _ same (resumed g u (read vs v.variable.0) h.0 h.1.0, h.1.1);
      blocks = refl;
    };
  }

  -- ---- an exchange
  exchanges_alike : (r : Rest) (e : made.Exchange.Exchange) (to : ℕ) (next : Rest) (held : Option ℕ) → Stands p n to next
      → Alike p (graph_steps.exchanges p bound w self f gs e to held) (steps.exchanges p bound s self (t r) ts e next held)
  exchanges_alike r e to next None h = on_alike r to next vs bs h
  exchanges_alike r e to next (Some held) h = on_alike r to next (set vs e.given.variable.0 (Some held))
      (change_each (exchanged_block self (address (read vs e.holder.variable.0)) e.field (address (read vs e.given.variable.0)) held) bs) h

  -- ---- a switch
  closes_alike : (r : Rest) (c : Option EntranceModel) (a : Option Arm) → IsCase at c a
      → Alike p (graph_steps.closes_at p bound w self f gs c) (steps.closes_at p bound s self (t r) ts a)
  closes_alike r None None h = record { is = refl }
  closes_alike r None (Some a) h = absurd h
  closes_alike r (Some c) None h = absurd h
  closes_alike r (Some c) (Some a) h = on_alike r c.next a.body vs bs h.1

  receives_at_alike : (r : Rest) (c : Option EntranceModel) (a : Option Arm) (x : ℕ) (m : MessageHeld) (ms : List MessageHeld) → IsCase at c a
      → Alike p (graph_steps.receives_at p bound w self f gs c x m ms) (steps.receives_at p bound s self (t r) ts a x m ms)
  receives_at_alike r None None x m ms h = record { is = refl }
  receives_at_alike r None (Some a) x m ms h = absurd h
  receives_at_alike r (Some c) None x m ms h = absurd h
  receives_at_alike r (Some c) (Some a) x m ms h =
      let blocks = change_each (received_block self x (state_after_receive p bs x m.message) m ms) bs in
      subst (λ (xs : List VarId). Alike p (on_graph c.next (bound_to vs xs m.payload) blocks)
      (on_rest r a.body (bound_to vs a.targets m.payload) blocks)) (sym h.0)
      (on_alike r c.next a.body (bound_to vs a.targets m.payload) blocks h.1)

  receives_alike : (r : Rest) (es : List EntranceModel) (arms : Arms) → AreAt at es arms → (v x : ℕ) (queue : List MessageHeld)
      → Alike p (graph_steps.receives p bound w self f gs es v x queue) (steps.receives p bound s self (t r) ts arms v x queue)
  receives_alike r es arms h v x [] = by (is_freed_at bs (block_at bs x).peer)
    where
      by : (b : Bool) → Alike p (if b then graph_steps.closes_at p bound w self f gs (case_for es v None) else graph.Waits)
          (if b then steps.closes_at p bound s self (t r) ts (arm_for arms v None) else Waits)
      by true = closes_alike r (case_for es v None) (arm_for arms v None) (case_same at es arms h v None)
      by false = record { is = tt }
  receives_alike r es arms h v x (m ∷ ms) =
      receives_at_alike r (case_for es v (Some m.message)) (arm_for arms v (Some m.message)) x m ms (case_same at es arms h v (Some m.message))

  receives_from_alike : (r : Rest) (es : List EntranceModel) (arms : Arms) → AreAt at es arms → (o : Option Mention)
      → Alike p (graph_steps.receives_from p bound w self f gs es o) (steps.receives_from p bound s self (t r) ts arms o)
  receives_from_alike r es arms h None = record { is = tt }
  receives_from_alike r es arms h (Some v) = receives_alike r es arms h v.variable.0 (address (read vs v.variable.0))
      (block_at bs (address (read vs v.variable.0))).queue

  -- ---- conditions
  branch_alike : (r : Rest) (c : ℕ) (place : Place) (ways : Ways) (i o : ℕ) (inside past : Rest) → Stands p n i inside → Stands p n o past
      → Alike p
      (if nat_lt c (graph_frames.choices (graphs.Branch place (branches ways i o))) then on_graph (graph_steps.way (branches ways i o) c) vs bs
      else graph.NoChoice)
      (if nat_lt c (ways_of ways) then on_rest r (way ways c inside past) vs bs else NoChoice)
  branch_alike r c place Either i o inside past hi ho = if_alike p (nat_lt c 2) (by (c == 0))
    where
      by : (b : Bool) → Alike p (on_graph (if b then i else o) vs bs) (on_rest r (if b then inside else past) vs bs)
      by true = on_alike r i inside vs bs hi
      by false = on_alike r o past vs bs ho
  branch_alike r c place Body i o inside past hi ho = if_alike p (nat_lt c 1) (on_alike r i inside vs bs hi)
  branch_alike r c place Past i o inside past hi ho = if_alike p (nat_lt c 1) (on_alike r o past vs bs ho)

  -- ---- an instruction
  abbrev there : ℕ → graph.Outcome
  there c = outcome_of p bound w (record { process = self; choice = c }) f gs (at point)

  abbrev here : Rest → ℕ → Outcome
  here r c = if nat_lt c (choices r) then steps.outcome_from p bound s self (t r) ts r c else NoChoice

  told : (r : Rest) (c : ℕ) (i : Instruction) → at point ≡ Some i
      → Alike p (if nat_lt c (graph_frames.choices i) then graph_steps.outcome_from p bound w self f gs i c else graph.NoChoice) (here r c)
      → Alike p (there c) (here r c)
  told r c i is h = subst (λ (o : Option Instruction). Alike p (outcome_of p bound w (record { process = self; choice = c }) f gs o) (here r c))
      (sym is) h

  abbrev own : Mention → FaultTest
  own v = test (is_own bs self (read vs v.variable.0)) F1

  pub step_alike : (r : Rest) (c : ℕ) → Stands p n point r → Alike p (there c) (here r c)
  step_alike (Act (does.Use v) k) c (m, (is, h)) =
      told (Act (does.Use v) k) c (graphs.Act (does.Use v) m) is
      (if_alike p (nat_lt c 1) (after_alike p (own v ∷ []) (on_alike (Act (does.Use v) k) m k vs bs h)))
  step_alike (Act (does.NewChannel x) k) c (m, (is, h)) =
      told (Act (does.NewChannel x) k) c (graphs.Act (does.NewChannel x) m) is
      (if_alike p (nat_lt c 1) (on_alike (Act (does.NewChannel x) k) m k _ _ h))
  step_alike (Act (does.Move v u) k) c (m, (is, h)) =
      told (Act (does.Move v u) k) c (graphs.Act (does.Move v u) m) is
      (if_alike p (nat_lt c 1) (after_alike p (own u ∷ []) (on_alike (Act (does.Move v u) k) m k _ _ h)))
  step_alike (Act (does.Delete v) k) c (m, (is, h)) =
      told (Act (does.Delete v) k) c (graphs.Act (does.Delete v) m) is
      (if_alike p (nat_lt c 1) (after_alike p (test (is_own bs self (read vs v.variable.0)) F2 ∷ [])
      (on_alike (Act (does.Delete v) k) m k _ _ h)))
  step_alike (Act (does.Exchange e) k) c (m, (is, h)) =
      told (Act (does.Exchange e) k) c (graphs.Act (does.Exchange e) m) is
      (if_alike p (nat_lt c 1) (after_alike p
      (own e.holder
      ∷ test (is_own_still bs self (address (read vs e.holder.variable.0) ∷ []) (read vs e.given.variable.0)) F3
      ∷ [])
      (exchanges_alike (Act (does.Exchange e) k) e m k (slice_get (block_at bs (address (read vs e.holder.variable.0))).fields e.field) h)))
  step_alike (New v arguments k) c (m, (is, h)) =
      told (New v arguments k) c (graphs.New v arguments m) is
      (if_alike p (nat_lt c 1) (after_alike p (argument_tests bs self vs [] (payloads_claimed arguments))
      (on_alike (New v arguments k) m k _ _ h)))
  step_alike (Send place e message payloads k) c (m, (is, h)) =
      told (Send place e message payloads k) c (graphs.Send place e message payloads m) is
      (if_alike p (nat_lt c 1) (after_alike p
      (own e ∷ (argument_tests bs self vs [] (payloads_claimed payloads) ++ send_tests p bound bs (address (read vs e.variable.0)) message.0))
      (on_alike (Send place e message payloads k) m k _ _ h)))
  step_alike (Switch place arms) c (es, (is, h)) =
      told (Switch place arms) c (graphs.Switch place es) is
      (subst (λ (ms : List Mention). Alike p
      (if nat_lt c (length ms) then graph.after_tests (map own ms) (graph_steps.receives_from p bound w self f gs es (slice_get ms c))
      else graph.NoChoice)
      (here (Switch place arms) c)) (sym (mentions_same at es arms h []))
      (if_alike p (nat_lt c (length (first_mentions [] arms)))
      (after_alike p (map own (first_mentions [] arms))
      (receives_from_alike (Switch place arms) es arms h (slice_get (first_mentions [] arms) c)))))
  step_alike (If place ways inside past) c (i, (o, (is, (hi, ho)))) =
      told (If place ways inside past) c (graphs.Branch place (branches ways i o)) is
      (branch_alike (If place ways inside past) c place ways i o inside past hi ho)
  step_alike (While (stated.Test place ms ways body) k) c (head, (from, (past, (lead, (is, (stand, h)))))) =
      let test = stated.Test place ms ways body in
      let r = While test k in
      let inside = (block body past head from head).entry in
      let at_head : Stands p n head (loop test k) = reads_at at ms head point r lead (head, (from, (past, (lead, (is, (stand, h)))))) in
      told r c (graphs.Branch place (branches ways inside past)) is
      (branch_alike r c place ways inside past (turn test k) k
      (block_means at body past head k (loop test k) (loop test k) h at_head from head stand at_head) h)
  step_alike (Forget g k) c (m, (is, h)) =
      told (Forget g k) c (graphs.Forget g m) is (if_alike p (nat_lt c 1) (on_alike (Forget g k) m k _ _ h))
  step_alike (Call place method arguments target k) c (m, (is, h)) =
      told (Call place method arguments target k) c (graphs.Call place method arguments target m) is
      (if_alike p (nat_lt c 1) (after_alike p (argument_tests bs self vs [] arguments)
      (record {
        is = record {
          processes = set_same p fs ss self _ _ same (
            entry_same p method.0 (map (λ a. read vs a.mention.variable.0) arguments),
            (record { is = refl; stands = (m, (is, h)) }, (tt, waits)),
          );
          blocks = refl;
        };
      })))
  step_alike (Start place method arguments k) c (m, (is, h)) =
      told (Start place method arguments k) c (graphs.Start place method arguments m) is
      (if_alike p (nat_lt c 1) (after_alike p (argument_tests bs self vs [] arguments)
      (record {
        is = record {
          processes = append_same p _ _ _ _ (set_same p fs ss self _ _ same (record { is = refl; stands = h }, waits))
              (entry_same p method.0 (map (λ a. read vs a.mention.variable.0) arguments), tt);
          blocks = ap (λ (q : ℕ). change_each (with_new_owner (Process q) (addresses vs arguments)) bs) (same_count p fs ss same);
        };
      })))
  step_alike (Return place value scope) c is =
      told (Return place value scope) c (graphs.Return place value scope) is
      (if_alike p (nat_lt c 1) (by value (returns_alike (Return place value scope) value gs ts waits)))
    where
      by : (value : Option Mention) {o : graph.Outcome} {x : Outcome} → Alike p o x
          → Alike p (graph.after_tests (graph_steps.value_tests p bound w self f gs value) o)
          (after_tests (steps.value_tests p bound s self (t (Return place value scope)) ts value) x)
      by None h = h
      by (Some v) h = after_alike p (test (is_own bs self (read vs v.variable.0)) F3 ∷ []) h
  step_alike (Stop place) c is =
      told (Stop place) c (graphs.Stop place) is (if_alike p (nat_lt c 1) (returns_alike (Stop place) None gs ts waits))
  step_alike Missing c is =
      subst (λ (o : Option Instruction). Alike p (outcome_of p bound w (record { process = self; choice = c }) f gs o) (here Missing c))
      (sym is) (by (nat_lt c 0))
    where
      by : (b : Bool) → Alike p graph.NoChoice (if b then NoChoice else NoChoice)
      by true = record { is = tt }
      by false = record { is = tt }
