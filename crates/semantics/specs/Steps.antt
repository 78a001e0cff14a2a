-- What each instruction of a process tests and changes.
use Rattle.std.specs.Prelude.{ℕ, ◌+◌, if◌then◌else◌, Option, Some, None}
use Rattle.std.specs.Prelude.{List, [], ◌∷◌, ◌++◌, map, length, slice_get, set}
use Rattle.program.specs.Programs.{ProgramModel}
use Rattle.program.specs.Statements as stated
use Rattle.program.specs.declared.types.Side.TheVariants.{Imp, Exp}
use Rattle.program.specs.declared.statement as made
use Rattle.program.specs.declared.statement.Mention.{Mention}
use Rattle.program.specs.declared.statement.Action.TheVariants.{Use, Move, Delete, Exchange, NewChannel}
use Rattle.semantics.specs.Rests.{Rest, Act, New, Send, Switch, If, While, Forget, Call, Start, Return, Stop, Missing, Arms, turn}
use Rattle.rules.specs.Endpoints.{first_state}
use Rattle.machine.specs.Blocks.{argument_tests, is_own_still, owns_none, send_tests, state_after_receive, state_after_send}
use Rattle.machine.specs.Blocks.{end_type, exchanged_block, freed_block, goes_with, is_imp, new_block, received_block, sent_block}
use Rattle.machine.specs.Blocks.{with_new_owner}
use Rattle.machine.specs.Frames.{type_at, method_at, variables_of}
use Rattle.machine.specs.Frames.{address, addresses, bound_to, out_of_scope, gone_with, payloads_claimed, put}
use Rattle.machine.specs.Outcomes.{QueueBounds, FaultTest, test}
use Rattle.machine.specs.World.{Block, MessageHeld, block_at, change_each, is_freed_at, is_own, let_go, read}
use Rattle.machine.specs.declared.halts.Fault.TheVariants.{F1, F2, F3, F5, F7}
use Rattle.machine.specs.declared.worlds.Owner.TheVariants.{Process, Inside}
use Rattle.semantics.specs.Worlds.{Arm, Frame, World, Outcome, Moved, Faulty, Waits, NoChoice, after_tests, arm_for, call_next, call_target}
use Rattle.semantics.specs.Worlds.{first_mentions, frame_at_entry, way}

module _ (p : ProgramModel) (bound : QueueBounds) (w : World) (self : ℕ) (f : Frame) (rest : List Frame) where
  -- the process continues with these frames and blocks
  abbrev pub goes : List Frame → List Block → Outcome
  goes frames blocks = Moved record { processes = set w.processes self frames; blocks = blocks }

  -- its innermost frame has this still to do
  abbrev pub on : Rest → List (Option ℕ) → List Block → Outcome
  on next variables blocks = goes (record { method = f.method; rest = next; variables = variables } ∷ rest) blocks

  -- the address in a variable of that frame
  abbrev pub has : Mention → Option ℕ
  has v = read f.variables v.variable.0

  -- the endpoint at an address sends
  abbrev pub send_from : (at : ℕ) → MessageHeld → List (Option ℕ) → Rest → Outcome
  send_from at message variables next =
      let to = (block_at w.blocks at).peer in
      on next variables
      (change_each (sent_block at (state_after_send p w.blocks at message.message) to (is_freed_at w.blocks to) message) w.blocks)

  -- the process continues at the case for the close; without one, this is F5
  abbrev pub closes_at : Option Arm → Outcome
  closes_at None = Faulty F5
  closes_at (Some c) = on c.body f.variables w.blocks

  -- the process continues at the case for the front message; without one, this is F5
  abbrev pub receives_at : Option Arm → ℕ → MessageHeld → List MessageHeld → Outcome
  receives_at None at m ms = Faulty F5
  receives_at (Some c) at m ms =
      on c.body (bound_to f.variables c.targets m.payload)
      (change_each (received_block self at (state_after_receive p w.blocks at m.message) m ms) w.blocks)

  -- what an endpoint with this queue receives: the front message or, if there is none, the close if its peer is freed; otherwise it waits
  abbrev pub receives : Arms → ℕ → ℕ → List MessageHeld → Outcome
  receives cases v at [] = if is_freed_at w.blocks (block_at w.blocks at).peer then closes_at (arm_for cases v None) else Waits
  receives cases v at (m ∷ ms) = receives_at (arm_for cases v (Some m.message)) at m ms

  -- what the chosen endpoint receives
  abbrev pub receives_from : Arms → Option Mention → Outcome
  receives_from cases None = NoChoice
  receives_from cases (Some v) = receives cases v.variable.0 (address (has v)) (block_at w.blocks (address (has v))).queue

  -- A frame ends. Its caller continues; if there is none the process ends, and if it still owns a block this is F7.
  abbrev pub returns : Option Mention → List Frame → Outcome
  returns value [] = after_tests (test (owns_none w.blocks self) F7 ∷ []) (goes [] w.blocks)
  returns None (g ∷ more) = goes (record { method = g.method; rest = call_next g.rest; variables = g.variables } ∷ more) w.blocks
  returns (Some v) (g ∷ more) =
      goes (record { method = g.method; rest = call_next g.rest; variables = put g.variables (call_target g.rest) (has v) } ∷ more) w.blocks

  -- the test that the process owns the returned block, if there is one; else F3
  abbrev pub value_tests : Option Mention → List FaultTest
  value_tests None = []
  value_tests (Some v) = test (is_own w.blocks self (has v)) F3 ∷ []

  -- What a variable has and what a field of the holder's block holds are exchanged, if the block has such a field.
  abbrev pub exchanges : made.Exchange.Exchange → Rest → (held : Option ℕ) → Outcome
  exchanges e next None = on next f.variables w.blocks
  exchanges e next (Some held) =
      on next (set f.variables e.given.variable.0 (Some held))
      (change_each (exchanged_block self (address (has e.holder)) e.field (address (has e.given)) held) w.blocks)

  -- for each instruction its tests in order, and the world after it
  abbrev pub outcome_from : Rest → (choice : ℕ) → Outcome
  outcome_from (Act (Use v) next) choice = after_tests (test (is_own w.blocks self (has v)) F1 ∷ []) (on next f.variables w.blocks)
  outcome_from (Act (NewChannel c) next) choice =
      let first_is_imp = is_imp (type_at (variables_of p f.method) c.first.variable.0) in
      let a = length w.blocks in
      let begins = first_state p c.contract.0 in
      on next
      (set (set f.variables c.first.variable.0 (Some (if first_is_imp then a else a + 1))) c.second.variable.0
      (Some (if first_is_imp then a + 1 else a)))
      (w.blocks ++ new_block (end_type c Imp) self (a + 1) begins [] ∷ new_block (end_type c Exp) self a begins [] ∷ [])
  outcome_from (Act (Move v u) next) choice =
      after_tests (test (is_own w.blocks self (has u)) F1 ∷ [])
      (on next (set (set f.variables v.variable.0 (has u)) u.variable.0 None) w.blocks)
  outcome_from (Act (Delete v) next) choice =
      after_tests (test (is_own w.blocks self (has v)) F2 ∷ [])
      (on next (set f.variables v.variable.0 None) (change_each (freed_block (goes_with w.blocks (address (has v)))) w.blocks))
  outcome_from (Act (Exchange e) next) choice =
      after_tests
      (test (is_own w.blocks self (has e.holder)) F1
      ∷ test (is_own_still w.blocks self (address (has e.holder) ∷ []) (has e.given)) F3
      ∷ [])
      (exchanges e next (slice_get (block_at w.blocks (address (has e.holder))).fields e.field))
  outcome_from (New v arguments next) choice =
      let given = payloads_claimed arguments in
      after_tests (argument_tests w.blocks self f.variables [] given)
      (on next (set (let_go f.variables given) v.variable.0 (Some (length w.blocks)))
      (change_each (with_new_owner (Inside (length w.blocks)) (addresses f.variables given)) w.blocks
      ++ new_block (type_at (variables_of p f.method) v.variable.0) self 0 0 (addresses f.variables given) ∷ []))
  outcome_from (Send place e message payloads next) choice =
      let at = address (has e) in
      let given = payloads_claimed payloads in
      after_tests
      (test (is_own w.blocks self (has e)) F1
      ∷ (argument_tests w.blocks self f.variables [] given ++ send_tests p bound w.blocks at message.0))
      (send_from at record { message = message.0; payload = addresses f.variables given } (let_go f.variables given) next)
  outcome_from (Switch place cases) choice =
      after_tests (map (λ e. test (is_own w.blocks self (has e)) F1) (first_mentions [] cases))
      (receives_from cases (slice_get (first_mentions [] cases) choice))
  outcome_from (If place ways inside past) choice = on (way ways choice inside past) f.variables w.blocks
  outcome_from (While (stated.Test place mentions ways body) next) choice =
      on (way ways choice (turn (stated.Test place mentions ways body) next) next) f.variables w.blocks
  outcome_from (Forget g next) choice = on next (out_of_scope f.variables (gone_with (method_at p f.method) g)) w.blocks
  outcome_from (Call place method arguments target next) choice =
      after_tests (argument_tests w.blocks self f.variables [] arguments)
      (goes
      (frame_at_entry p method.0 (map (λ a. has a.mention) arguments)
      ∷ record { method = f.method; rest = f.rest; variables = let_go f.variables arguments } ∷ rest) w.blocks)
  outcome_from (Start place method arguments next) choice =
      after_tests (argument_tests w.blocks self f.variables [] arguments)
      (Moved record {
        processes = set w.processes self (record { method = f.method; rest = next; variables = let_go f.variables arguments } ∷ rest)
            ++ (frame_at_entry p method.0 (map (λ a. has a.mention) arguments) ∷ []) ∷ [];
        blocks = change_each (with_new_owner (Process (length w.processes)) (addresses f.variables arguments)) w.blocks;
      })
  outcome_from (Return place value scope) choice = after_tests (value_tests value) (returns value rest)
  outcome_from (Stop place) choice = returns None rest
  outcome_from Missing choice = NoChoice
