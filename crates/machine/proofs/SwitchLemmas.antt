-- A switch: the front of a queue, and the case for it.
use Rattle.std.proofs.Common.{◌≡◌, ℕ, ◌<◌, List, [], ◌∷◌, Some, None, refl, sym, ap, ◌∙◌, slice_get, length, arith}
use Rattle.source.specs.declared.place.Place.{Place}
use Rattle.program.specs.Programs.{ProgramModel}
use Rattle.program.specs.declared.statement.Mention.{Mention}
use Rattle.flow.specs.Cases.{EntranceModel, first_mentions}
use Rattle.flow.specs.Graphs.{Switch}
use Rattle.machine.specs.Answers.{front_of, own_tests}
use Rattle.machine.specs.Frames.{address}
use Rattle.machine.specs.Machine.{outcome_from, receives, receives_from}
use Rattle.machine.specs.Outcomes.{QueueBounds, after_tests}
use Rattle.machine.specs.World.{Block, Frame, MessageHeld, World, block_at, read}

-- a queue without a front is empty
pub no_front : (q : List MessageHeld) → front_of q ≡ None → q ≡ []
no_front [] is = refl
no_front (m ∷ ms) is = absurd (cc)

-- a queue with a front begins with that message
pub front_there : (q : List MessageHeld) (n : ℕ) → front_of q ≡ Some n → (m : MessageHeld) × (ms : List MessageHeld) × (q ≡ m ∷ ms) × (n ≡ m.message)
front_there [] n is = absurd (cc)
front_there (m ∷ ms) n is = let same : n ≡ m.message = cc in (m, ms, refl, same)

-- a queue with a front is not empty
pub some_there : (q : List MessageHeld) (n : ℕ) → front_of q ≡ Some n → 0 < length q
some_there [] n is = absurd (cc)
some_there (m ∷ ms) n is = omega arith

-- the mention that is read past the end of a slice
abbrev pub no_mention : Mention
no_mention = record { variable = record { 0 = 0 }; place = record { line = 0; col = 0 } }

-- a switch: its tests, and then what the chosen endpoint receives
pub switch_is : (p : ProgramModel) (bound : QueueBounds) (w : World) (self : ℕ) (f : Frame) (rest : List Frame) (place : Place) (cases : List EntranceModel) (choice : ℕ) (bs : List Block) (es : List Mention) → w.blocks ≡ bs → es ≡ first_mentions [] cases
    → outcome_from p bound w self f rest (Switch place cases) choice ≡ after_tests (own_tests bs self f.variables es) (receives_from p bound w self f rest cases (slice_get es choice))
switch_is p bound w self f rest place cases choice bs es is named =
    ap (λ b. after_tests (own_tests b self f.variables (first_mentions [] cases)) (receives_from p bound w self f rest cases (slice_get (first_mentions [] cases) choice))) is
    ∙ ap (λ l. after_tests (own_tests bs self f.variables l) (receives_from p bound w self f rest cases (slice_get l choice))) (sym named)

pub switch_goes : (p : ProgramModel) (bound : QueueBounds) (w : World) (self : ℕ) (f : Frame) (rest : List Frame) (cases : List EntranceModel) (es : List Mention) (choice : ℕ) (e : Mention) (at : ℕ) (bs : List Block)
    → slice_get es choice ≡ Some e → at ≡ address (read f.variables e.variable.0) → w.blocks ≡ bs
    → receives_from p bound w self f rest cases (slice_get es choice) ≡ receives p bound w self f rest cases e.variable.0 at (block_at bs at).queue
switch_goes p bound w self f rest cases es choice e at bs there has is =
    ap (receives_from p bound w self f rest cases) there
    ∙ (ap (λ a. receives p bound w self f rest cases e.variable.0 a (block_at w.blocks a).queue) (sym has)
    ∙ ap (λ b. receives p bound w self f rest cases e.variable.0 at (block_at b at).queue) is)
