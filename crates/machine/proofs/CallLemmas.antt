-- Calls and starts: their tests, and the frame that begins.
use Rattle.std.proofs.Common.{◌≡◌, ℕ, List, [], ◌∷◌, Some, None, Ok, Err, sym, ap, ◌∙◌, subst, map, reverse}
use Rattle.std.specs.Prelude.{Option, Result, IsErrAnd, IfErr, OnOk}
use Rattle.std.proofs.lemmas.List.{append-nil}
use Rattle.source.specs.declared.place.Place.{Place}
use Rattle.program.specs.Programs.{ProgramModel}
use Rattle.program.specs.declared.call.Argument.{Argument}
use Rattle.program.specs.declared.number.MethodId.{MethodId}
use Rattle.program.specs.declared.statement.Mention.{Mention}
use Rattle.flow.specs.Graphs.{Call}
use Rattle.machine.specs.Answers.{IsFirstFault, IsRefusal, Pass, Tells, entered_on, on_stack, with_stack, with_variables}
use Rattle.machine.specs.Blocks.{argument_tests}
use Rattle.machine.specs.Frames.{frame_at_entry}
use Rattle.machine.specs.Outcomes.{QueueBounds, Outcome, Faulty, Moved, FaultTest, after_tests}
use Rattle.machine.specs.Views.{frame_model, stack_of}
use Rattle.machine.specs.World.{Block, Frame, World, let_go}
use Rattle.machine.proofs.FrameLemmas.{given_for}
use Rattle.machine.specs.declared.worlds as made
use Rattle.machine.specs.declared.halts.Fault.{Fault}
use Rattle.machine.specs.declared.halts.Refusal.{Refusal}
use Rattle.machine.specs.declared.halts.Refusal.TheVariants as refusal

-- a refusal is passed on unchanged
pub passed_on : (X : Type 0) (r : Result X Refusal) (x : Refusal) → IsErrAnd r (λ e. e ≡ x) → r ≡ Err x
passed_on X (Ok y) x is = absurd is
passed_on X (Err e) x is = ap (λ t. Err t) is

-- after tests that pass comes the outcome
pub pass_alone : (tests : List FaultTest) (outcome : Outcome) → Pass tests → after_tests tests outcome ≡ outcome
pass_alone tests outcome pass = ap (λ l. after_tests l outcome) (sym (append-nil tests)) ∙ pass [] outcome

-- if no first fault is found, the tests pass
pub none_passes : (tests : List FaultTest) (r : Option Fault) → r ≡ None → IsFirstFault r tests → Pass tests
none_passes tests None is pass = pass
none_passes tests (Some fault) is pass = absurd (cc)

-- the outcome is the fault of the first test that fails
pub refused_alone : (tests : List FaultTest) (fault : Fault) (outcome o : Outcome) → IsFirstFault (Some fault) tests → o ≡ after_tests tests outcome → o ≡ Faulty fault
refused_alone tests fault outcome o h is = is ∙ (ap (λ l. after_tests l outcome) (sym (append-nil tests)) ∙ h [] outcome)

-- the returned refusal of a test matches the outcome
pub told_alone : (X : Type 0) (r : Result X Refusal) (x : Refusal) (tests : List FaultTest) (outcome o : Outcome) (after : World) → r ≡ Err x → IsRefusal x tests → o ≡ after_tests tests outcome → Tells r o after
told_alone X r x tests outcome o after e h is = subst (λ t. Tells t o after) (sym e) (at x h)
  where
    at : (y : Refusal) → IsRefusal y tests → Tells {X = X} (Err y) o after
    at (refusal.Fault fault) h = refused_alone tests fault outcome o h is
    at refusal.Ended h = absurd h
    at refusal.Waits h = absurd h
    at refusal.Memory h = absurd h

-- the outcome of a call whose tests pass
abbrev pub called_to : ProgramModel → World → ℕ → made.Frame.Frame → List made.Frame.Frame → MethodId → List Argument → Outcome
called_to p w self f waiting method arguments =
    Moved (with_stack w self (frame_at_entry p method.0 (given_for (frame_model f).variables arguments) ∷ with_variables (frame_model f) (let_go (frame_model f).variables arguments) ∷ map frame_model (reverse waiting)) w.blocks)

-- a call: its tests, and then that outcome
pub call_is : (p : ProgramModel) (bound : QueueBounds) (w : World) (self : ℕ) (place : Place) (method : MethodId) (arguments given : List Argument) (target : Option Mention) (next : ℕ) (top : Option made.Frame.Frame) (waiting : List made.Frame.Frame) (f : made.Frame.Frame) (bs : List Block)
    → top ≡ Some f → w.blocks ≡ bs → given ≡ arguments
    → on_stack p bound w self (Call place method arguments target next) 0 (stack_of top waiting) ≡ after_tests (argument_tests bs self (frame_model f).variables [] given) (called_to p w self f waiting method arguments)
call_is p bound w self place method arguments given target next top waiting f bs e is args =
    ap (λ t. on_stack p bound w self (Call place method arguments target next) 0 (stack_of t waiting)) e
    ∙ (ap (λ b. after_tests (argument_tests b self (frame_model f).variables [] arguments) (called_to p w self f waiting method arguments)) is
    ∙ ap (λ l. after_tests (argument_tests bs self (frame_model f).variables [] l) (called_to p w self f waiting method arguments)) (sym args))

-- the frame that begins is on top
pub entered_is : (p : ProgramModel) (w : World) (self : ℕ) (method : MethodId) (arguments b d : List Argument) (top : Option made.Frame.Frame) (waiting : List made.Frame.Frame) (f begun : made.Frame.Frame) (stack : List Frame)
    → top ≡ Some f → b ≡ arguments → d ≡ arguments → frame_model begun ≡ frame_at_entry p method.0 (given_for (frame_model f).variables b) → stack ≡ entered_on (frame_model begun) d (stack_of top waiting)
    → called_to p w self f waiting method arguments ≡ Moved (with_stack w self stack w.blocks)
entered_is p w self method arguments b d top waiting f begun stack e same others begins is =
    let rest = map frame_model (reverse waiting) in
    let started : frame_model begun ≡ frame_at_entry p method.0 (given_for (frame_model f).variables arguments) = begins ∙ ap (λ l. frame_at_entry p method.0 (given_for (frame_model f).variables l)) same in
    let stands : stack ≡ frame_at_entry p method.0 (given_for (frame_model f).variables arguments) ∷ with_variables (frame_model f) (let_go (frame_model f).variables arguments) ∷ rest =
    is ∙ (ap (λ t. entered_on (frame_model begun) d (stack_of t waiting)) e
    ∙ (ap (λ g. g ∷ with_variables (frame_model f) (let_go (frame_model f).variables d) ∷ rest) started
    ∙ ap (λ l. frame_at_entry p method.0 (given_for (frame_model f).variables arguments) ∷ with_variables (frame_model f) (let_go (frame_model f).variables l) ∷ rest) others)) in
    ap (λ s. Moved (with_stack w self s w.blocks)) (sym stands)

-- `Memory` is returned only if the world would change
pub memory_tells : (X : Type 0) (r : Result X Refusal) (x : Refusal) (o : Outcome) (v after : World) → r ≡ Err x → x ≡ refusal.Memory → o ≡ Moved v → Tells r o after
memory_tells X r x o v after e is moves = subst (λ t. Tells t o after) (sym (e ∙ ap (λ y. Err y) is)) (v, moves)

-- a call whose tests pass moves
pub call_tells : (X : Type 0) (r : Result X Refusal) (o : Outcome) (w v : World) (self : ℕ) (stack : List Frame) (bs : List Block) (Stands : Type 0)
    → w.blocks ≡ bs → o ≡ Moved v → OnOk r Stands → IfErr r (λ x. x ≡ refusal.Memory) → (Stands → Moved v ≡ Moved (with_stack w self stack w.blocks)) → Tells r o (with_stack w self stack bs)
call_tells X (Ok y) o w v self stack bs Stands is moves stands memory then_is = moves ∙ (then_is stands ∙ ap (λ b. Moved (with_stack w self stack b)) is)
call_tells X (Err x) o w v self stack bs Stands is moves stands memory then_is = subst (λ y. Tells {X = X} (Err y) o (with_stack w self stack bs)) (sym memory) (v, moves)
