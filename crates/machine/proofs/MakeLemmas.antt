-- A new block with what is given inside: its tests, and what follows from them.
use Rattle.std.proofs.Common.{◌≡◌, ℕ, List, [], ◌∷◌, ◌++◌, Some, ap, ◌∙◌, refl, subst, sym, length, set}
use Rattle.std.specs.Prelude.{Option}
use Rattle.program.specs.declared.call.Argument.{Argument}
use Rattle.program.specs.declared.types.HeapType.{HeapType}
use Rattle.program.specs.declared.statement.Mention.{Mention}
use Rattle.machine.specs.Answers.{IsFirstFault, Pass, on_top, with_variables}
use Rattle.machine.specs.Blocks.{argument_tests, with_new_owner, new_block}
use Rattle.machine.specs.Frames.{addresses, payloads_claimed}
use Rattle.machine.specs.Heaps.{AreOnce, AreOwnedBy}
use Rattle.machine.specs.Outcomes.{Faulty, Outcome, after_tests}
use Rattle.machine.specs.World.{Block, Frame, change_each, let_go}
use Rattle.machine.specs.declared.halts.Fault.{Fault}
use Rattle.machine.specs.declared.worlds.Owner.TheVariants.{Inside}
use Rattle.machine.proofs.CallLemmas.{pass_alone, refused_alone}
use Rattle.machine.proofs.PassLemmas.{pass_once, pass_owned_by}

-- b: the blocks as they were tested
module _ (bs b : List Block) (self : ℕ) (variables : List (Option ℕ)) (same : bs ≡ b) where
  pub tests_pass : (arguments : List Argument) (o : Outcome) → Pass (argument_tests b self variables [] arguments)
      → after_tests (argument_tests bs self variables [] arguments) o ≡ o
  tests_pass arguments o pass = ap (λ (l : List Block). after_tests (argument_tests l self variables [] arguments) o) same
      ∙ pass_alone (argument_tests b self variables [] arguments) o pass

  pub tests_fail : (arguments : List Argument) (fault : Fault) (o : Outcome)
      → IsFirstFault (Some fault) (argument_tests b self variables [] arguments)
      → after_tests (argument_tests bs self variables [] arguments) o ≡ Faulty fault
  tests_fail arguments fault o fails = ap (λ (l : List Block). after_tests (argument_tests l self variables [] arguments) o) same
      ∙ refused_alone (argument_tests b self variables [] arguments) fault o
      (after_tests (argument_tests b self variables [] arguments) o) fails refl

  -- the process owns what is given, and nothing is given twice
  pub given_owned : (payloads : List Mention) (given : List ℕ) → given ≡ addresses variables (payloads_claimed payloads)
      → Pass (argument_tests b self variables [] (payloads_claimed payloads)) → AreOwnedBy bs self given
  given_owned payloads given is pass = subst (λ (l : List Block). AreOwnedBy l self given) (sym same)
      (subst (AreOwnedBy b self) (sym is) (pass_owned_by b self variables [] (payloads_claimed payloads) pass))

  pub given_once : (payloads : List Mention) (given : List ℕ) → given ≡ addresses variables (payloads_claimed payloads)
      → Pass (argument_tests b self variables [] (payloads_claimed payloads)) → AreOnce given
  given_once payloads given is pass = subst AreOnce (sym is) (pass_once b self variables payloads pass)

-- the blocks after a process makes a new one of what it gives
abbrev pub blocks_with : (ty : HeapType) (self : ℕ) (given : List ℕ) → List Block → List Block
blocks_with ty self given bs = change_each (with_new_owner (Inside (length bs)) given) bs ++ new_block ty self 0 0 given ∷ []

-- a frame at this point, with these variables
abbrev pub frame_at : Frame → ℕ → List (Option ℕ) → Frame
frame_at f point variables = record { method = f.method; point = point; variables = variables }

-- The world after that: the frame f loses what is given, its target gets the address, and it becomes f2.
pub world_with : (processes : List (List Frame)) (self : ℕ) (rest : List Frame) (f f2 : Frame) (point target address : ℕ)
    (bs after : List Block) (arguments claimed : List Argument) (given : List ℕ) (left : List (Option ℕ)) (ty known : HeapType)
    → claimed ≡ arguments → given ≡ addresses f.variables arguments → address ≡ length bs → known ≡ ty → left ≡ let_go f.variables claimed
    → f2 ≡ with_variables f (set left target (Some address)) → after ≡ blocks_with known self given bs
    → on_top processes self rest (frame_at f point (set (let_go f.variables arguments) target (Some (length bs))))
    (blocks_with ty self (addresses f.variables arguments) bs)
    ≡ on_top processes self rest (frame_at f2 point f2.variables) after
world_with processes self rest f f2 point target address bs after arguments claimed given left ty known these gives at types gone put made =
    let variables : set (let_go f.variables arguments) target (Some (length bs)) ≡ f2.variables =
    sym (ap (λ (x : Frame). x.variables) put
    ∙ (ap (λ (l : List (Option ℕ)). set l target (Some address)) (gone ∙ ap (let_go f.variables) these)
    ∙ ap (λ (n : ℕ). set (let_go f.variables arguments) target (Some n)) at)) in
    let method : f.method ≡ f2.method = sym (ap (λ (x : Frame). x.method) put) in
    let blocks : blocks_with ty self (addresses f.variables arguments) bs ≡ after =
    sym (made ∙ (ap (λ (k : HeapType). blocks_with k self given bs) types ∙ ap (λ (g : List ℕ). blocks_with ty self g bs) gives)) in
    ap (λ (l : List (Option ℕ)). on_top processes self rest (frame_at f point l)
    (blocks_with ty self (addresses f.variables arguments) bs)) variables
    ∙ (ap (λ (m : ℕ). on_top processes self rest (record { method = m; point = point; variables = f2.variables })
    (blocks_with ty self (addresses f.variables arguments) bs)) method
    ∙ ap (on_top processes self rest (frame_at f2 point f2.variables)) blocks)
