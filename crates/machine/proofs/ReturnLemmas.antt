-- A frame ends, and its caller, the last of the waiting frames, goes on.
use Rattle.std.proofs.Common.{◌≡◌, ℕ, ◌+◌, List, [], ◌∷◌, ◌++◌, Some, None, Ok, Err, refl, sym, ap, ◌∙◌, length, map, reverse, set, take, arith}
use Rattle.std.specs.Prelude.{IsSome, OnErr, Option, Result, get_or}
use Rattle.std.proofs.lemmas.List.{get_or-set_same, length-set, reverse-append, take-set, take_all, take_more}
use Rattle.program.specs.Programs.{ProgramModel}
use Rattle.program.specs.declared.statement.Mention.{Mention}
use Rattle.machine.specs.Answers.{outcome_of_end, given_back, with_stack, with_variables}
use Rattle.machine.specs.Frames.{call_next, call_target, instruction_at}
use Rattle.machine.specs.Machine.{returns}
use Rattle.machine.specs.Outcomes.{QueueBounds, Moved}
use Rattle.machine.specs.Views.{frame_model, stack_of}
use Rattle.machine.specs.World.{Block, Frame, World}
use Rattle.machine.specs.declared.worlds as made

-- the caller, after a frame with this stack has ended
abbrev pub came_back : ProgramModel → Option Mention → List Frame → Frame → Frame
came_back p value stack g = record {
  method = g.method;
  point = call_next (instruction_at p g);
  variables = given_back value (call_target (instruction_at p g)) stack g.variables;
}

returns_is : (p : ProgramModel) (bound : QueueBounds) (w : World) (self : ℕ) (value : Option Mention) (f g : Frame) (rest more : List Frame) → rest ≡ g ∷ more
    → outcome_of_end p bound w self value (f ∷ rest) ≡ Moved (with_stack w self (came_back p value (f ∷ []) g ∷ more) w.blocks)
returns_is p bound w self None f g rest more is = ap (λ (l : List Frame). returns p bound w self f rest None l) is
returns_is p bound w self (Some v) f g rest more is = ap (λ (l : List Frame). returns p bound w self f rest (Some v) l) is

-- the waiting frames: the last one, after those before it
split_last : (ws : List made.Frame.Frame) (n : ℕ) (c : made.Frame.Frame) → n + 1 ≡ length ws → c ≡ get_or ws n c → ws ≡ take n ws ++ c ∷ []
split_last ws n c many last =
    sym (take_all (n + 1) ws (omega arith)) ∙ (take_more ws n c (omega arith) ∙ ap (λ (x : made.Frame.Frame). take n ws ++ x ∷ []) (sym last))

pub last_first : (ws : List made.Frame.Frame) (n : ℕ) (c : made.Frame.Frame) → n + 1 ≡ length ws → c ≡ get_or ws n c
    → map frame_model (reverse ws) ≡ frame_model c ∷ map frame_model (reverse (take n ws))
last_first ws n c many last =
    ap (λ (l : List made.Frame.Frame). map frame_model (reverse l)) (split_last ws n c many last)
    ∙ ap (map frame_model) (reverse-append (take n ws) (c ∷ []))

pub ended_is : (p : ProgramModel) (bound : QueueBounds) (w : World) (self : ℕ) (value : Option Mention) (top : Option made.Frame.Frame) (ws : List made.Frame.Frame) (n : ℕ) (c : made.Frame.Frame)
    → IsSome top → n + 1 ≡ length ws → c ≡ get_or ws n c
    → outcome_of_end p bound w self value (stack_of top ws) ≡ Moved (with_stack w self (came_back p value (stack_of top []) (frame_model c) ∷ map frame_model (reverse (take n ws))) w.blocks)
ended_is p bound w self value None ws n c some many last = absurd (cc)
ended_is p bound w self value (Some f) ws n c some many last =
    returns_is p bound w self value (frame_model f) (frame_model c) (map frame_model (reverse ws)) (map frame_model (reverse (take n ws))) (last_first ws n c many last)

last_set : (ws : List made.Frame.Frame) (n : ℕ) (d : made.Frame.Frame) → n + 1 ≡ length ws → map frame_model (reverse (set ws n d)) ≡ frame_model d ∷ map frame_model (reverse (take n ws))
last_set ws n d many =
    last_first (set ws n d) n d (many ∙ sym (length-set ws n d)) (sym (get_or-set_same ws n d d (omega arith)))
    ∙ ap (λ (l : List made.Frame.Frame). frame_model d ∷ map frame_model (reverse l)) (take-set ws n d)

-- a caller with the same model as before
pub same_waiting : (top : Option made.Frame.Frame) (ws : List made.Frame.Frame) (n : ℕ) (c d : made.Frame.Frame) → n + 1 ≡ length ws → c ≡ get_or ws n c
    → frame_model d ≡ frame_model c → stack_of top (set ws n d) ≡ stack_of top ws
same_waiting None ws n c d many last same = refl
same_waiting (Some f) ws n c d many last same =
    let more = map frame_model (reverse (take n ws)) in
    ap (λ (l : List Frame). frame_model f ∷ l)
    (last_set ws n d many ∙ (ap (λ (g : Frame). g ∷ more) same ∙ sym (last_first ws n c many last)))

-- the frames of a process after its innermost one has ended and the last waiting one has become d
pub came_to : (top : Option made.Frame.Frame) (ws left : List made.Frame.Frame) (n : ℕ) (d : made.Frame.Frame) → n + 1 ≡ length ws → left ≡ take n (set ws n d) → top ≡ Some d
    → stack_of top left ≡ frame_model d ∷ map frame_model (reverse (take n ws))
came_to top ws left n d many rest now =
    ap (λ (t : Option made.Frame.Frame). stack_of t left) now
    ∙ ap (λ (l : List made.Frame.Frame). frame_model d ∷ map frame_model (reverse l)) (rest ∙ take-set ws n d)

-- an unconditional fact holds on an error
pub err_holds : {X E : Type 0} (r : Result X E) (P : Type 0) → P → OnErr r P
err_holds (Ok x) P holds = tt
err_holds (Err e) P holds = holds

-- the caller is h once it has the result, and goes on at the next point
pub back_is : (p : ProgramModel) (value target : Option Mention) (stack : List Frame) (g h : Frame) (next : ℕ) → h ≡ with_variables g (given_back value target stack g.variables)
    → target ≡ call_target (instruction_at p g) → next ≡ call_next (instruction_at p g)
    → came_back p value stack g ≡ record { method = h.method; point = next; variables = h.variables }
back_is p value target stack g h next takes to on =
    ap (λ (t : Option Mention). record { method = g.method; point = call_next (instruction_at p g); variables = given_back value t stack g.variables }) (sym to)
    ∙ (ap (λ (n : ℕ). record { method = g.method; point = n; variables = given_back value target stack g.variables }) (sym on)
    ∙ ap (λ (x : Frame). record { method = x.method; point = next; variables = x.variables }) (sym takes))

-- the outcome of the end of a frame, after which the caller is d
pub goes_back : (p : ProgramModel) (bound : QueueBounds) (w : World) (self : ℕ) (value target : Option Mention) (top now : Option made.Frame.Frame) (ws left : List made.Frame.Frame) (n next : ℕ) (c h d : made.Frame.Frame)
    (bs : List Block) → IsSome top → n + 1 ≡ length ws → c ≡ get_or ws n c
    → frame_model h ≡ with_variables (frame_model c) (given_back value target (stack_of top []) (frame_model c).variables)
    → target ≡ call_target (instruction_at p (frame_model c)) → next ≡ call_next (instruction_at p (frame_model c))
    → frame_model d ≡ record { method = (frame_model h).method; point = next; variables = (frame_model h).variables }
    → left ≡ take n (set ws n d) → now ≡ Some d → w.blocks ≡ bs
    → outcome_of_end p bound w self value (stack_of top ws) ≡ Moved (with_stack w self (stack_of now left) bs)
goes_back p bound w self value target top now ws left n next c h d bs some many last takes to on is rest come blocks =
    let more = map frame_model (reverse (take n ws)) in
    ended_is p bound w self value top ws n c some many last
    ∙ (ap (λ (x : Frame). Moved (with_stack w self (x ∷ more) w.blocks))
    (back_is p value target (stack_of top []) (frame_model c) (frame_model h) next takes to on ∙ sym is)
    ∙ (ap (λ (l : List Frame). Moved (with_stack w self l w.blocks)) (sym (came_to now ws left n d many rest come))
    ∙ ap (λ (b : List Block). Moved (with_stack w self (stack_of now left) b)) blocks))
