-- What is reached after each event was reached before, or is new.
use Rattle.std.proofs.Common.{◌≡◌, ◌∷◌, ◌++◌, ◌+◌, ℕ, Bool, true, false, List, [], Contains, Option, Some, None}
use Rattle.std.proofs.Common.{arith, inl, inr, length, map, refl, set, subst, sym, ⊎_elim}
use Rattle.std.specs.Prelude.{if◌then◌else◌, slice_get}
use Rattle.std.proofs.lemmas.List.Elements.{Contains-append_right, Contains-push_cases}
use Rattle.program.specs.Programs.{ProgramModel}
use Rattle.program.specs.declared.call.Argument.{Argument}
use Rattle.program.specs.declared.number.MethodId.{MethodId}
use Rattle.program.specs.declared.statement.Action.TheVariants.{Use, Move, Delete, Exchange, NewChannel}
use Rattle.program.specs.declared.statement.Exchange as stated
use Rattle.program.specs.declared.statement.Mention.{Mention}
use Rattle.program.specs.declared.types.Side.TheVariants.{Imp, Exp}
use Rattle.flow.specs.Cases.{EntranceModel, case_for, first_mentions}
use Rattle.flow.specs.Graphs.{Instruction, Act, New, Send, Switch, Branch, Forget, Call, Start}
use Rattle.flow.specs.Graphs.{Return, Stop}
use Rattle.rules.specs.Endpoints.{first_state}
use Rattle.machine.specs.Blocks.{argument_tests, end_type, exchanged_block, freed_block, goes_with, is_imp, is_own_still}
use Rattle.machine.specs.Blocks.{new_block, owns_none, received_block, send_tests, sent_block, state_after_receive}
use Rattle.machine.specs.Blocks.{state_after_send, with_new_owner}
use Rattle.machine.specs.Frames.{address, addresses, bound_to, call_next, call_target, frame_at_entry, gone_with, instruction_at}
use Rattle.machine.specs.Frames.{method_at, out_of_scope, payloads_claimed, put, type_at, variables_of}
use Rattle.machine.specs.Instructions.{closes_at, exchanges, goes, on, outcome_from, receives, receives_at, receives_from, returns}
use Rattle.machine.specs.Instructions.{value_tests, way}
use Rattle.machine.specs.Outcomes.{Moved, QueueBounds, Waits, test}
use Rattle.machine.specs.World.{Block, Frame, MessageHeld, World, block_at, change_each, is_freed_at, is_own, let_go, read}
use Rattle.machine.specs.declared.halts.Fault.TheVariants.{F1, F2, F3, F7}
use Rattle.machine.specs.declared.worlds.Owner.TheVariants.{Inside, Process}
use Rattle.lost.specs.Lost.{IsReached}
use Rattle.lost.proofs.AliveLemmas.{append_lasting, change_lasting, exchanged_alive, freed_lasting, given_alive, received_alive}
use Rattle.lost.proofs.AliveLemmas.{same_lasting, sent_alive}
use Rattle.lost.proofs.BlockLemmas.{either, exchanged_kept, freed_kept, made_kept, no_more, nothing_listed, one_more}
use Rattle.lost.proofs.BlockLemmas.{received_kept, sent_kept}
use Rattle.lost.proofs.MarkLemmas.{none_in}
use Rattle.lost.proofs.StayLemmas.{AreKept, AreLasting, IsNext, IsOldOrNew, KeepBlocks, KeepFrames, append_kept, bound_kept}
use Rattle.lost.proofs.StayLemmas.{change_kept, cons_frames, entered_kept, given_kept, let_go_kept, none_kept, old_blocks}
use Rattle.lost.proofs.StayLemmas.{out_kept, put_kept, read_in, read_kept, set_frames, set_kept, some_kept, stays}
use Rattle.lost.proofs.TestLemmas.{IsAfter, any_tests, each_test, given_all, given_test, in_list, one_test, own_some}
use Rattle.lost.proofs.TestLemmas.{still_some, variable_kept}

module _ (p : ProgramModel) (bound : QueueBounds) (w : World) (self : ℕ) (f : Frame) (rest : List Frame)
    (old : (a : ℕ) → Contains f.variables (Some a) → IsReached w a) (others : KeepFrames w rest) where
  kept : AreKept w f.variables
  kept a has = inl (old a has)

  -- ---- the next world
  goes_still : (frames : List Frame) (blocks : List Block) → KeepFrames w frames → KeepBlocks w blocks
      → AreLasting w blocks → IsAfter (IsNext w) (goes p bound w self f rest frames blocks)
  goes_still frames blocks all held lasting = record {
    reached = stays w (record { processes = set w.processes self frames; blocks = blocks }) (set_frames w self frames all) held;
    lasting = lasting;
  }

  on_still : (next : ℕ) (variables : List (Option ℕ)) (blocks : List Block) → AreKept w variables → KeepBlocks w blocks
      → AreLasting w blocks → IsAfter (IsNext w) (on p bound w self f rest next variables blocks)
  on_still next variables blocks now held lasting =
      goes_still (record { method = f.method; point = next; variables = variables } ∷ rest) blocks
      (cons_frames w (record { method = f.method; point = next; variables = variables }) rest now others) held lasting

  -- ---- a Switch
  closes_still : (c : Option EntranceModel) → IsAfter (IsNext w) (closes_at p bound w self f rest c)
  closes_still None = tt
  closes_still (Some c) = on_still c.next f.variables w.blocks kept (old_blocks w) (same_lasting w)

  close_or_wait : (gone : Bool) (c : Option EntranceModel) → IsAfter (IsNext w) (if gone then closes_at p bound w self f rest c else Waits)
  close_or_wait true c = closes_still c
  close_or_wait false c = tt

  receives_still : (c : Option EntranceModel) (at : ℕ) (m : MessageHeld) (ms : List MessageHeld) → IsOldOrNew w at
      → (block_at w.blocks at).queue ≡ m ∷ ms → IsAfter (IsNext w) (receives_at p bound w self f rest c at m ms)
  receives_still None at m ms old is = tt
  receives_still (Some c) at m ms old is =
      on_still c.next (bound_to f.variables c.targets m.payload)
      (change_each (received_block self at (state_after_receive p w.blocks at m.message) m ms) w.blocks)
      (bound_kept w f.variables c.targets m.payload kept (λ a has. old_blocks w at old a (inr (m, front, has))))
      (change_kept w (received_block self at (state_after_receive p w.blocks at m.message) m ms)
      (λ b x block. received_kept w self at (state_after_receive p w.blocks at m.message) m ms b x
      (λ a message. old_blocks w at old a (inr (message.0, later message.0 message.1, message.2))) block))
      (change_lasting w (received_block self at (state_after_receive p w.blocks at m.message) m ms)
      (received_alive self at (state_after_receive p w.blocks at m.message) m ms))
    where
      front : Contains (block_at w.blocks at).queue m
      front = subst (λ l. Contains l m) (sym is) (0, omega arith, refl)

      later : (n : MessageHeld) → Contains ms n → Contains (block_at w.blocks at).queue n
      later n has = subst (λ l. Contains l n) (sym is) (Contains-append_right (m ∷ []) ms n has)

  queue_still : (cases : List EntranceModel) (v at : ℕ) (queue : List MessageHeld) → IsOldOrNew w at
      → (block_at w.blocks at).queue ≡ queue → IsAfter (IsNext w) (receives p bound w self f rest cases v at queue)
  queue_still cases v at [] old is = close_or_wait (is_freed_at w.blocks (block_at w.blocks at).peer) (case_for cases v None)
  queue_still cases v at (m ∷ ms) old is = receives_still (case_for cases v (Some m.message)) at m ms old is

  from_still : (cases : List EntranceModel) (v : Option Mention) → ((e : Mention) → v ≡ Some e
      → is_own w.blocks self (read f.variables e.variable.0) ≡ true) → IsAfter (IsNext w) (receives_from p bound w self f rest cases v)
  from_still cases None own = tt
  from_still cases (Some e) own =
      let x = read f.variables e.variable.0 in
      queue_still cases e.variable.0 (address x) (block_at w.blocks (address x)).queue
      (variable_kept w self f kept e (own_some w.blocks self x (own e refl))) refl

  -- ---- a Return
  value_kept : (v : Mention) (a : ℕ) → read f.variables v.variable.0 ≡ Some a → IsOldOrNew w a
  value_kept v a is = read_kept w f.variables v.variable.0 a kept is

  returns_still : (value : Option Mention) (fs : List Frame) → KeepFrames w fs → IsAfter (IsNext w) (returns p bound w self f rest value fs)
  returns_still value [] all =
      any_tests (IsNext w) (test (owns_none w.blocks self) F7 ∷ []) (goes p bound w self f rest [] w.blocks)
      (goes_still [] w.blocks all (old_blocks w) (same_lasting w))
  returns_still None (g ∷ more) all =
      let h : Frame = record { method = g.method; point = call_next (instruction_at p g); variables = g.variables } in
      goes_still (h ∷ more) w.blocks (cons_frames w h more (all g (0, omega arith, refl))
      (λ u has. all u (Contains-append_right (g ∷ []) more u has))) (old_blocks w) (same_lasting w)
  returns_still (Some v) (g ∷ more) all =
      let call = instruction_at p g in
      let x = read f.variables v.variable.0 in
      let h : Frame = record { method = g.method; point = call_next call; variables = put g.variables (call_target call) x } in
      goes_still (h ∷ more) w.blocks
      (cons_frames w h more (put_kept w g.variables (call_target call) x (all g (0, omega arith, refl)) (value_kept v))
      (λ u has. all u (Contains-append_right (g ∷ []) more u has))) (old_blocks w) (same_lasting w)

  -- ---- an Exchange
  exchanges_still : (e : stated.Exchange) (next : ℕ) (held : Option ℕ) → IsOldOrNew w (address (read f.variables e.holder.variable.0))
      → IsOldOrNew w (address (read f.variables e.given.variable.0))
      → slice_get (block_at w.blocks (address (read f.variables e.holder.variable.0))).fields e.field ≡ held
      → IsAfter (IsNext w) (exchanges p bound w self f rest e next held)
  exchanges_still e next None at given is = on_still next f.variables w.blocks kept (old_blocks w) (same_lasting w)
  exchanges_still e next (Some held) at given is =
      let x = address (read f.variables e.holder.variable.0) in
      let y = address (read f.variables e.given.variable.0) in
      let was : IsOldOrNew w held = old_blocks w x at held (inl (in_list (block_at w.blocks x).fields e.field held is)) in
      on_still next (set f.variables e.given.variable.0 (Some held)) (change_each (exchanged_block self x e.field y held) w.blocks)
      (set_kept w f.variables e.given.variable.0 (Some held) kept (λ a same. some_kept w held a was same))
      (change_kept w (exchanged_block self x e.field y held) (λ b z block. exchanged_kept w self x e.field y held b z given block))
      (change_lasting w (exchanged_block self x e.field y held) (exchanged_alive self x e.field y held))

  -- ---- a Call and a Start
  entry_kept : (method : MethodId) (arguments : List Argument)
      → AreKept w (frame_at_entry p method.0 (map (λ x. read f.variables x.mention.variable.0) arguments)).variables
  entry_kept method arguments =
      entered_kept w (method_at p method.0) method.0 (map (λ x. read f.variables x.mention.variable.0) arguments)
      (given_kept w f.variables arguments kept)

  no_frames : KeepFrames w []
  no_frames g has = absurd (none_in [] g refl has)

  start_still : (method : MethodId) (arguments : List Argument) (next : ℕ) → IsAfter (IsNext w) (Moved record {
    processes = set w.processes self (record { method = f.method; point = next; variables = let_go f.variables arguments } ∷ rest)
        ++ (frame_at_entry p method.0 (map (λ x. read f.variables x.mention.variable.0) arguments) ∷ []) ∷ [];
    blocks = change_each (with_new_owner (Process (length w.processes)) (addresses f.variables arguments)) w.blocks;
  })
  start_still method arguments next =
      let g : Frame = record { method = f.method; point = next; variables = let_go f.variables arguments } in
      let h = frame_at_entry p method.0 (map (λ x. read f.variables x.mention.variable.0) arguments) in
      let change = with_new_owner (Process (length w.processes)) (addresses f.variables arguments) in
      record {
        reached = stays w (record { processes = set w.processes self (g ∷ rest) ++ (h ∷ []) ∷ []; blocks = change_each change w.blocks })
            (λ stack there. ⊎_elim
            (λ old. set_frames w self (g ∷ rest) (cons_frames w g rest (let_go_kept w f.variables arguments kept) others) stack old)
            (λ same. subst (KeepFrames w) same (cons_frames w h [] (entry_kept method arguments) no_frames))
            (Contains-push_cases (set w.processes self (g ∷ rest)) (h ∷ []) stack there))
            (change_kept w change (λ b x block. block));
        lasting = change_lasting w change
            (λ j x alive. given_alive (Process (length w.processes)) (addresses f.variables arguments) j x refl alive);
      }

  -- ---- every instruction
  pub instruction_still : (i : Instruction) (choice : ℕ) → IsAfter (IsNext w) (outcome_from p bound w self f rest i choice)
  instruction_still (Act (Use v) next) choice =
      any_tests (IsNext w) (test (is_own w.blocks self (read f.variables v.variable.0)) F1 ∷ []) _
      (on_still next f.variables w.blocks kept (old_blocks w) (same_lasting w))
  instruction_still (Act (NewChannel c) next) choice =
      let n = length w.blocks in
      let first_is_imp = is_imp (type_at (variables_of p f.method) c.first.variable.0) in
      let begins = first_state p c.contract.0 in
      let x = new_block (end_type c Imp) self (n + 1) begins [] in
      let y = new_block (end_type c Exp) self n begins [] in
      let one = set f.variables c.first.variable.0 (Some (if first_is_imp then n else n + 1)) in
      on_still next (set one c.second.variable.0 (Some (if first_is_imp then n + 1 else n))) (w.blocks ++ x ∷ y ∷ [])
      (set_kept w one c.second.variable.0 (Some (if first_is_imp then n + 1 else n))
      (set_kept w f.variables c.first.variable.0 (Some (if first_is_imp then n else n + 1)) kept
      (λ a same. some_kept w (if first_is_imp then n else n + 1) a (inr (either n first_is_imp n (n + 1) (omega arith) (omega arith)))
      same))
      (λ a same. some_kept w (if first_is_imp then n + 1 else n) a (inr (either n first_is_imp (n + 1) n (omega arith) (omega arith)))
      same))
      (append_kept w w.blocks (x ∷ y ∷ []) (old_blocks w)
      (one_more w self x (y ∷ []) (made_kept w self (end_type c Imp) (n + 1) begins [] (nothing_listed w self))
      (one_more w self y [] (made_kept w self (end_type c Exp) n begins [] (nothing_listed w self)) (no_more w self))))
      (append_lasting w w.blocks (x ∷ y ∷ []) (same_lasting w))
  instruction_still (Act (Move v u) next) choice =
      let x = read f.variables u.variable.0 in
      let one = set f.variables v.variable.0 x in
      any_tests (IsNext w) (test (is_own w.blocks self x) F1 ∷ []) _
      (on_still next (set one u.variable.0 None) w.blocks
      (set_kept w one u.variable.0 None (set_kept w f.variables v.variable.0 x kept (value_kept u)) (none_kept w)) (old_blocks w)
      (same_lasting w))
  instruction_still (Act (Delete v) next) choice =
      let x = read f.variables v.variable.0 in
      let gone = goes_with w.blocks (address x) in
      one_test (IsNext w) (is_own w.blocks self x) F2 [] _
      (λ own. on_still next (set f.variables v.variable.0 None) (change_each (freed_block gone) w.blocks)
      (set_kept w f.variables v.variable.0 None kept (none_kept w)) (change_kept w (freed_block gone) (freed_kept w self gone))
      (freed_lasting w (address x)
      (old (address x) (read_in f.variables v.variable.0 (address x) (own_some w.blocks self x own)))))
  instruction_still (Act (Exchange e) next) choice =
      let x = read f.variables e.holder.variable.0 in
      let y = read f.variables e.given.variable.0 in
      one_test (IsNext w) (is_own w.blocks self x) F1 _ _
      (λ own. one_test (IsNext w) (is_own_still w.blocks self (address x ∷ []) y) F3 [] _
      (λ still. exchanges_still e next (slice_get (block_at w.blocks (address x)).fields e.field)
      (variable_kept w self f kept e.holder (own_some w.blocks self x own))
      (variable_kept w self f kept e.given (still_some w.blocks self (address x ∷ []) y still)) refl))
  instruction_still (New v arguments next) choice =
      let n = length w.blocks in
      let given = payloads_claimed arguments in
      let ty = type_at (variables_of p f.method) v.variable.0 in
      let change = with_new_owner (Inside n) (addresses f.variables given) in
      let x = new_block ty self 0 0 (addresses f.variables given) in
      let left = let_go f.variables given in
      given_all w self f kept given _ (λ listed. on_still next (set left v.variable.0 (Some n)) (change_each change w.blocks ++ x ∷ [])
      (set_kept w left v.variable.0 (Some n) (let_go_kept w f.variables given kept) (λ a same. some_kept w n a (inr (omega arith)) same))
      (append_kept w (change_each change w.blocks) (x ∷ []) (change_kept w change (λ b z block. block))
      (one_more w self x [] (made_kept w self ty 0 0 (addresses f.variables given) listed) (no_more w self)))
      (append_lasting w (change_each change w.blocks) (x ∷ [])
      (change_lasting w change (λ j z alive. given_alive (Inside n) (addresses f.variables given) j z refl alive))))
  instruction_still (Send place e message payloads next) choice =
      let at = address (read f.variables e.variable.0) in
      let given = payloads_claimed payloads in
      let to = (block_at w.blocks at).peer in
      let m : MessageHeld = record { message = message.0; payload = addresses f.variables given } in
      let change = sent_block at (state_after_send p w.blocks at message.0) to (is_freed_at w.blocks to) m in
      one_test (IsNext w) (is_own w.blocks self (read f.variables e.variable.0)) F1 _ _
      (λ own. given_test w self f kept [] given _ _ (λ listed. any_tests (IsNext w) (send_tests p bound w.blocks at message.0) _
      (on_still next (let_go f.variables given) (change_each change w.blocks) (let_go_kept w f.variables given kept)
      (change_kept w change (λ b x block.
      sent_kept w self at (state_after_send p w.blocks at message.0) to (is_freed_at w.blocks to) m b x listed block))
      (change_lasting w change (sent_alive at (state_after_send p w.blocks at message.0) to (is_freed_at w.blocks to) m)))))
  instruction_still (Switch place cases) choice =
      each_test w self f kept (first_mentions [] cases) _ (λ own. from_still cases (slice_get (first_mentions [] cases) choice)
      (λ e is. own e (in_list (first_mentions [] cases) choice e is)))
  instruction_still (Branch place branches) choice =
      on_still (way branches choice) f.variables w.blocks kept (old_blocks w) (same_lasting w)
  instruction_still (Forget g next) choice =
      let gone = gone_with (method_at p f.method) g in
      on_still next (out_of_scope f.variables gone) w.blocks (out_kept w f.variables gone kept) (old_blocks w) (same_lasting w)
  instruction_still (Call place method arguments target next) choice =
      let g : Frame = record { method = f.method; point = f.point; variables = let_go f.variables arguments } in
      let h = frame_at_entry p method.0 (map (λ x. read f.variables x.mention.variable.0) arguments) in
      any_tests (IsNext w) (argument_tests w.blocks self f.variables [] arguments) _
      (goes_still (h ∷ g ∷ rest) w.blocks
      (cons_frames w h (g ∷ rest) (entry_kept method arguments) (cons_frames w g rest (let_go_kept w f.variables arguments kept) others))
      (old_blocks w) (same_lasting w))
  instruction_still (Start place method arguments next) choice =
      any_tests (IsNext w) (argument_tests w.blocks self f.variables [] arguments) _ (start_still method arguments next)
  instruction_still (Return place value scope) choice =
      any_tests (IsNext w) (value_tests p bound w self f rest value) _ (returns_still value rest others)
  instruction_still (Stop place) choice = returns_still None rest others
