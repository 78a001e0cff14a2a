-- The outcome of an instruction on a stack is that on its innermost frame.
use Rattle.std.proofs.Common.{◌≡◌, ℕ, List, ◌∷◌, Some, refl, ap, ◌∙◌, map, [], ◌<◌, length, set, sym, subst}
use Rattle.std.specs.Prelude.{Option, Result, Ok, Err, OnErr, get_or, reverse}
use Rattle.std.proofs.lemmas.List.{get_or-map, map-set}
use Rattle.std.proofs.Math.Seq.{map-set_same}
use Rattle.machine.specs.declared.halts.Refusal.{Refusal}
use Rattle.flow.specs.Graphs.{Instruction}
use Rattle.program.specs.Programs.{ProgramModel}
use Rattle.machine.specs.Answers.{Tells, on_stack, on_top, with_stack}
use Rattle.machine.specs.Machine.{outcome_from}
use Rattle.machine.specs.Outcomes.{Outcome, QueueBounds}
use Rattle.machine.specs.Views.{blocks_model, frame_model, stack_of, stack_model}
use Rattle.machine.specs.World.{Block, Frame, World, stack_at}
use Rattle.machine.specs.declared.worlds as made

abbrev pub the_world : List (List Frame) → List Block → World
the_world processes blocks = record { processes = processes; blocks = blocks }

pub on_frame : (p : ProgramModel) (bound : QueueBounds) (w : World) (self : ℕ) (i j : Instruction) (choice : ℕ) (top : Option made.Frame.Frame) (waiting : List made.Frame.Frame) (f : made.Frame.Frame) → top ≡ Some f → i ≡ j → on_stack p bound w self i choice (stack_of top waiting) ≡ outcome_from p bound w self (frame_model f) (map frame_model (reverse waiting)) j choice
on_frame p bound w self i j choice top waiting f e is =
    ap (λ t. on_stack p bound w self i choice (stack_of t waiting)) e ∙ ap (λ k. outcome_from p bound w self (frame_model f) (map frame_model (reverse waiting)) k choice) is

pub tells_at : {X : Type 0} (r : Result X Refusal) (o : Outcome) (w : World) (self : ℕ) (stack : List Frame) (blocks after : List Block) → blocks ≡ after
    → Tells r o (with_stack w self stack blocks) → Tells r o (with_stack w self stack after)
tells_at r o w self stack blocks after is told = subst (λ bs. Tells r o (with_stack w self stack bs)) is told

pub run_tells : {X : Type 0} (r : Result X Refusal) (outcome : List Frame → Outcome) (ps : List made.Process.Process) (q : ℕ) (s t : made.Process.Process) (blocks : List Block) → q < length ps → s ≡ get_or ps q s →
    Tells r (outcome (stack_model s)) (record { processes = set (map stack_model ps) q (stack_model t); blocks = blocks }) →
    Tells r (outcome (stack_at (map stack_model ps) q)) (record { processes = map stack_model (set ps q t); blocks = blocks })
run_tells r outcome ps q s t blocks short is told =
    let there : stack_model s ≡ stack_at (map stack_model ps) q = ap stack_model is ∙ sym (get_or-map stack_model ps q s [] short) in
    subst (λ x. Tells r (outcome x) (record { processes = map stack_model (set ps q t); blocks = blocks })) there
    (subst (λ xs. Tells r (outcome (stack_model s)) (record { processes = xs; blocks = blocks })) (sym (map-set stack_model ps q t)) told)

pub run_same : {X : Type 0} (r : Result X Refusal) (ps : List made.Process.Process) (q : ℕ) (s t : made.Process.Process) (before after : List Block) → s ≡ get_or ps q s →
    OnErr r (stack_model t ≡ stack_model s) → OnErr r (after ≡ before) →
    OnErr r (the_world (map stack_model (set ps q t)) after ≡ the_world (map stack_model ps) before)
run_same (Ok x) ps q s t before after is same kept = tt
run_same (Err h) ps q s t before after is same kept =
    let stacks : map stack_model (set ps q t) ≡ map stack_model ps = map-set_same stack_model ps q t s (same ∙ ap stack_model is) in
    ap (λ xs. the_world xs after) stacks ∙ ap (the_world (map stack_model ps)) kept

-- an instruction on the innermost frame of a process, with the stack and the blocks that it leaves
pub stack_tells : {X : Type 0} (r : Result X Refusal) (p : ProgramModel) (bound : QueueBounds) (ps : List made.Process.Process) (q : ℕ)
    (s t : made.Process.Process) (f : made.Frame.Frame) (i j : Instruction) (choice : ℕ) (before after : List Block)
    → q < length ps → s ≡ get_or ps q s → s.top ≡ Some f → i ≡ j
    → Tells r (outcome_from p bound (the_world (map stack_model ps) before) q (frame_model f) (map frame_model (reverse s.waiting.items)) j choice)
    (the_world (set (map stack_model ps) q (stack_model t)) after)
    → Tells r (on_stack p bound (the_world (map stack_model ps) before) q i choice (stack_at (map stack_model ps) q))
    (the_world (map stack_model (set ps q t)) after)
stack_tells r p bound ps q s t f i j choice before after short there top is told =
    let w = the_world (map stack_model ps) before in
    run_tells r (on_stack p bound w q i choice) ps q s t after short there
    (subst (λ o. Tells r o (the_world (set (map stack_model ps) q (stack_model t)) after))
    (sym (on_frame p bound w q i j choice s.top s.waiting.items f top is)) told)

pub stack_same : {X : Type 0} (r : Result X Refusal) (ps : List made.Process.Process) (q : ℕ) (s t : made.Process.Process) (f : made.Frame.Frame)
    (before after : List Block) → s ≡ get_or ps q s → s.top ≡ Some f
    → OnErr r (stack_model t ≡ frame_model f ∷ map frame_model (reverse s.waiting.items)) → OnErr r (after ≡ before)
    → OnErr r (the_world (map stack_model (set ps q t)) after ≡ the_world (map stack_model ps) before)
stack_same (Ok x) ps q s t f before after there top same kept = tt
stack_same {X = X} (Err e) ps q s t f before after there top same kept =
    run_same {X = X} (Err e) ps q s t before after there (same ∙ sym (ap (λ o. stack_of o s.waiting.items) top)) kept

-- a process with another innermost frame; the waiting ones are unchanged
abbrev pub with_top : made.Process.Process → made.Frame.Frame → made.Process.Process
with_top s g = record { top = Some g; waiting = s.waiting }

pub frame_tells : {X : Type 0} (r : Result X Refusal) (p : ProgramModel) (bound : QueueBounds) (ps : List made.Process.Process) (q : ℕ)
    (s : made.Process.Process) (f g : made.Frame.Frame) (i j : Instruction) (choice : ℕ) (before after : List Block)
    → q < length ps → s ≡ get_or ps q s → s.top ≡ Some f → i ≡ j
    → ((rest : List Frame) → Tells r (outcome_from p bound (the_world (map stack_model ps) before) q (frame_model f) rest j choice)
    (on_top (map stack_model ps) q rest (frame_model g) after))
    → Tells r (on_stack p bound (the_world (map stack_model ps) before) q i choice (stack_at (map stack_model ps) q))
    (the_world (map stack_model (set ps q (with_top s g))) after)
frame_tells r p bound ps q s f g i j choice before after short there top is told =
    stack_tells r p bound ps q s (with_top s g) f i j choice before after short there top is (told (map frame_model (reverse s.waiting.items)))

pub frame_same : {X : Type 0} (r : Result X Refusal) (ps : List made.Process.Process) (q : ℕ) (s : made.Process.Process) (f g : made.Frame.Frame)
    (before after : List Block) → s ≡ get_or ps q s → s.top ≡ Some f → OnErr r (frame_model g ≡ frame_model f) → OnErr r (after ≡ before)
    → OnErr r (the_world (map stack_model (set ps q (with_top s g))) after ≡ the_world (map stack_model ps) before)
frame_same (Ok x) ps q s f g before after there top same kept = tt
frame_same {X = X} (Err e) ps q s f g before after there top same kept =
    stack_same {X = X} (Err e) ps q s (with_top s g) f before after there top (ap (λ x. x ∷ map frame_model (reverse s.waiting.items)) same) kept

-- a process whose innermost frame was only read
pub frame_read : (ps : List made.Process.Process) (q : ℕ) (s : made.Process.Process) (f : made.Frame.Frame) → s ≡ get_or ps q s → s.top ≡ Some f
    → map stack_model (set ps q (with_top s f)) ≡ map stack_model ps
frame_read ps q s f there top =
    map-set_same stack_model ps q (with_top s f) s (sym (ap (λ o. stack_of o s.waiting.items) top) ∙ ap stack_model there)

-- the blocks are unchanged on an error
pub same_blocks : {X : Type 0} (r : Result X Refusal) (blocks : List Block) → OnErr r (blocks ≡ blocks)
same_blocks (Ok x) blocks = tt
same_blocks (Err e) blocks = refl

-- an instruction with one choice, as memory holds it
pub one_choice : (p : ProgramModel) (bound : QueueBounds) (w : World) (self : ℕ) (i j : Instruction) (choice : ℕ) (stack : List Frame) → i ≡ j
    → ((f : Frame) (rest : List Frame) → outcome_from p bound w self f rest j choice ≡ outcome_from p bound w self f rest j 0)
    → on_stack p bound w self i choice stack ≡ on_stack p bound w self j 0 stack
one_choice p bound w self i j choice [] is one = refl
one_choice p bound w self i j choice (f ∷ rest) is one = ap (λ k. outcome_from p bound w self f rest k choice) is ∙ one f rest

-- the blocks as a slice
pub slice_tells : (X : Type 0) (r : Result X Refusal) (o : Outcome) (processes : List (List Frame)) (self : ℕ) (rest : List Frame) (f : Frame) (read blocks : List made.Block.Block)
    → read ≡ blocks → Tells r o (on_top processes self rest f (blocks_model read)) → Tells r o (on_top processes self rest f (blocks_model blocks))
slice_tells X r o processes self rest f read blocks is told = subst (λ l. Tells r o (on_top processes self rest f (blocks_model l))) is told
