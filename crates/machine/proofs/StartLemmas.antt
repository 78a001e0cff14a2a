-- Starts: the process that begins, and the one that starts it.
use Rattle.std.proofs.Common.{◌≡◌, ℕ, zero, suc, ◌<◌, List, [], ◌∷◌, ◌++◌, Some, sym, ap, ◌∙◌, map, length, reverse, set, arith}
use Rattle.std.specs.Prelude.{get_or}
use Rattle.std.proofs.lemmas.List.{length-map, map-append}
use Rattle.source.specs.declared.place.Place.{Place}
use Rattle.program.specs.Programs.{ProgramModel}
use Rattle.program.specs.declared.call.Argument.{Argument}
use Rattle.program.specs.declared.number.MethodId.{MethodId}
use Rattle.flow.specs.Graphs.{Start}
use Rattle.machine.specs.Answers.{Pass, on_stack, went_on}
use Rattle.machine.specs.Blocks.{argument_tests, with_new_owner}
use Rattle.machine.specs.Frames.{addresses, frame_at_entry}
use Rattle.machine.specs.Outcomes.{QueueBounds, Outcome, Moved, after_tests}
use Rattle.machine.specs.Views.{frame_model, stack_of, stack_model}
use Rattle.machine.specs.World.{Block, Frame, World, change_each, let_go}
use Rattle.machine.specs.declared.worlds.Owner.TheVariants.{Process}
use Rattle.machine.specs.declared.worlds as made
use Rattle.machine.proofs.CallLemmas.{pass_alone}
use Rattle.machine.proofs.FrameLemmas.{given_for}

-- the outcome of a start whose tests pass
abbrev pub started_to : ProgramModel → World → ℕ → made.Frame.Frame → List Frame → MethodId → List Argument → ℕ → Outcome
started_to p w self f rest method arguments next = Moved record {
  processes = set w.processes self (record { method = f.method.0; point = next; variables = let_go (frame_model f).variables arguments } ∷ rest)
      ++ (frame_at_entry p method.0 (given_for (frame_model f).variables arguments) ∷ []) ∷ [];
  blocks = change_each (with_new_owner (Process (length w.processes)) (addresses (frame_model f).variables arguments)) w.blocks;
}

-- a start: its tests, and then that outcome
pub start_is : (p : ProgramModel) (bound : QueueBounds) (w : World) (self : ℕ) (place : Place) (method : MethodId) (arguments given : List Argument) (next : ℕ) (stack : List Frame) (s : made.Process.Process) (f : made.Frame.Frame) (bs : List Block)
    → stack_model s ≡ stack → s.top ≡ Some f → bs ≡ w.blocks → given ≡ arguments
    → on_stack p bound w self (Start place method arguments next) 0 stack
    ≡ after_tests (argument_tests bs self (frame_model f).variables [] given) (started_to p w self f (map frame_model (reverse s.waiting.items)) method arguments next)
start_is p bound w self place method arguments given next stack s f bs here top is args =
    let goes = started_to p w self f (map frame_model (reverse s.waiting.items)) method arguments next in
    ap (on_stack p bound w self (Start place method arguments next) 0) (sym here)
    ∙ (ap (λ t. on_stack p bound w self (Start place method arguments next) 0 (stack_of t s.waiting.items)) top
    ∙ (ap (λ b. after_tests (argument_tests b self (frame_model f).variables [] arguments) goes) (sym is)
    ∙ ap (λ l. after_tests (argument_tests bs self (frame_model f).variables [] l) goes) (sym args)))

-- a start whose tests pass has that outcome
pub start_goes : (p : ProgramModel) (bound : QueueBounds) (w : World) (self : ℕ) (place : Place) (method : MethodId) (arguments given : List Argument) (next : ℕ) (stack : List Frame) (s : made.Process.Process) (f : made.Frame.Frame) (bs : List Block)
    → stack_model s ≡ stack → s.top ≡ Some f → bs ≡ w.blocks → given ≡ arguments → Pass (argument_tests bs self (frame_model f).variables [] given)
    → on_stack p bound w self (Start place method arguments next) 0 stack ≡ started_to p w self f (map frame_model (reverse s.waiting.items)) method arguments next
start_goes p bound w self place method arguments given next stack s f bs here top is args pass =
    start_is p bound w self place method arguments given next stack s f bs here top is args
    ∙ pass_alone (argument_tests bs self (frame_model f).variables [] given) (started_to p w self f (map frame_model (reverse s.waiting.items)) method arguments next) pass

-- the other processes are unchanged when one is appended
pushed_at : (ps : List made.Process.Process) (x : made.Process.Process) (q : ℕ) (u s : made.Process.Process) → q < length ps → u ≡ get_or (ps ++ x ∷ []) q u → s ≡ get_or ps q s → u ≡ s
pushed_at [] x q u s lt now was = absurd (omega arith)
pushed_at (y ∷ ps) x zero u s lt now was = now ∙ sym was
pushed_at (y ∷ ps) x (suc q) u s lt now was = pushed_at ps x q u s (omega arith) now was

set_pushed : (ps : List made.Process.Process) (x t : made.Process.Process) (q : ℕ) → q < length ps → map stack_model (set (ps ++ x ∷ []) q t) ≡ set (map stack_model ps) q (stack_model t) ++ stack_model x ∷ []
set_pushed [] x t q lt = absurd (omega arith)
set_pushed (y ∷ ps) x t zero lt = ap (λ l. stack_model t ∷ l) (map-append stack_model ps (x ∷ []))
set_pushed (y ∷ ps) x t (suc q) lt = ap (λ l. stack_model y ∷ l) (set_pushed ps x t q (omega arith))

abbrev the_moved : List (List Frame) → List Block → Outcome
the_moved processes blocks = Moved record { processes = processes; blocks = blocks }

-- the process begins, the one that starts it goes on, and what is given is handed over
pub started_is : (p : ProgramModel) (ps : List made.Process.Process) (q : ℕ) (s : made.Process.Process) (f : made.Frame.Frame) (method : MethodId) (arguments b d : List Argument) (next : ℕ) (begun : made.Frame.Frame) (x : made.Process.Process)
    (pushed : List made.Process.Process) (u t : made.Process.Process) (number : ℕ) (owned : List ℕ) (before after : List Block)
    → q < length ps → s ≡ get_or ps q s → s.top ≡ Some f
    → b ≡ arguments → frame_model begun ≡ frame_at_entry p method.0 (given_for (frame_model f).variables b) → stack_model x ≡ frame_model begun ∷ [] → pushed ≡ ps ++ x ∷ []
    → u ≡ get_or pushed q u → d ≡ arguments → stack_model t ≡ went_on d next (stack_model u)
    → number ≡ length ps → owned ≡ addresses (frame_model f).variables arguments → after ≡ change_each (with_new_owner (Process number) owned) before
    → started_to p (record { processes = map stack_model ps; blocks = before }) q f (map frame_model (reverse s.waiting.items)) method arguments next ≡ the_moved (map stack_model (set pushed q t)) after
started_is p ps q s f method arguments b d next begun x pushed u t number owned before after lt at top same begins one push now others goes count own is =
    let vars = (frame_model f).variables in
    let rest = map frame_model (reverse s.waiting.items) in
    let was : u ≡ s = pushed_at ps x q u s lt (now ∙ ap (λ l. get_or l q u) push) at in
    let gone : stack_model t ≡ record { method = f.method.0; point = next; variables = let_go vars arguments } ∷ rest =
    goes ∙ (ap (λ l. went_on l next (stack_model u)) others ∙ (ap (λ v. went_on arguments next (stack_model v)) was ∙ ap (λ o. went_on arguments next (stack_of o s.waiting.items)) top)) in
    let fresh : stack_model x ≡ frame_at_entry p method.0 (given_for vars arguments) ∷ [] = one ∙ ap (λ g. g ∷ []) (begins ∙ ap (λ l. frame_at_entry p method.0 (given_for vars l)) same) in
    let processes : map stack_model (set pushed q t) ≡ set (map stack_model ps) q (record { method = f.method.0; point = next; variables = let_go vars arguments } ∷ rest) ++ (frame_at_entry p method.0 (given_for vars arguments) ∷ []) ∷ [] =
    ap (λ l. map stack_model (set l q t)) push ∙ (set_pushed ps x t q lt ∙ (ap (λ l. set (map stack_model ps) q l ++ stack_model x ∷ []) gone ∙ ap (λ l. set (map stack_model ps) q (record { method = f.method.0; point = next; variables = let_go vars arguments } ∷ rest) ++ l ∷ []) fresh)) in
    let many : number ≡ length (map stack_model ps) = count ∙ sym (length-map ps stack_model) in
    let blocks : after ≡ change_each (with_new_owner (Process (length (map stack_model ps))) (addresses vars arguments)) before =
    is ∙ (ap (λ n. change_each (with_new_owner (Process n) owned) before) many ∙ ap (λ l. change_each (with_new_owner (Process (length (map stack_model ps))) l) before) own) in
    ap (λ l. the_moved l (change_each (with_new_owner (Process (length (map stack_model ps))) (addresses vars arguments)) before)) (sym processes) ∙ ap (the_moved (map stack_model (set pushed q t))) (sym blocks)
