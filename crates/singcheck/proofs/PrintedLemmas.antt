-- What is printed of a replay over graphs is printed of one over statements, and the other way round.
use Rattle.std.proofs.Common.{◌≡◌, ◌∙◌, ℕ, List, Option, ap, ap₂, map, sym}
use Rattle.source.specs.declared.place.Place.{Place}
use Rattle.program.specs.Programs.{ProgramModel}
use Rattle.machine.specs.Outcomes.{QueueBounds}
use Rattle.machine.specs.Replays as graph_replays
use Rattle.machine.specs.Replays.{ReplayModel}
use Rattle.machine.specs.World as graph_world
use Rattle.machine.specs.World.{Block}
use Rattle.machine.specs.declared.halts.Event.{Event}
use Rattle.machine.specs.declared.halts.Halt.{Halt}
use Rattle.replays.specs.Names.{Words}
use Rattle.replays.specs.WorldLines as graph_lines
use Rattle.replays.specs.WorldLines.{replay_lines}
use Rattle.semantics.specs.Places.{position}
use Rattle.semantics.specs.Replays.{IsReplay}
use Rattle.semantics.specs.Same.{IsWorld}
use Rattle.semantics.specs.Worlds.{World}
use Rattle.singcheck.specs.Replays.{IsPrinted}

-- in which both machines agree
pub record Agreeing : Type 0 where
  pub positions : (p : ProgramModel) (v : graph_world.World) (w : World) → IsWorld p v w
      → map (graph_lines.position p) v.processes ≡ map position w.processes
  pub graphs : (p : ProgramModel) (bound : QueueBounds) (n : ℕ) (events : List Event) (r : ReplayModel)
      → graph_replays.IsReplay p bound n events r → (w : World) × (IsReplay p bound n events r.steps r.halt w × IsWorld p r.world w)
  pub statements : (p : ProgramModel) (bound : QueueBounds) (n : ℕ) (events : List Event) (steps : ℕ) (why : Option Halt) (w : World)
      → IsReplay p bound n events steps why w
      → (v : graph_world.World) × (graph_replays.IsReplay p bound n events (record { world = v; steps = steps; halt = why }) × IsWorld p v w)

-- the lines of a replay over graphs
abbrev pub graph_printed : Words → List Event → ReplayModel → List ℕ
graph_printed words events r =
    replay_lines words events r.steps r.halt (map (graph_lines.position words.program) r.world.processes) r.world.blocks

-- the lines are the same for both worlds
lines_same : Agreeing → (words : Words) (events : List Event) (r : ReplayModel) (w : World) → IsWorld words.program r.world w
    → graph_printed words events r ≡ replay_lines words events r.steps r.halt (map position w.processes) w.blocks
lines_same agree words events r w h =
    ap₂ (λ (ps : List (ℕ × Option Place)) (bs : List Block). replay_lines words events r.steps r.halt ps bs)
    (agree.positions words.program r.world w h) h.blocks

-- what is printed of a replay over graphs
pub printed : Agreeing → (words : Words) (bound : QueueBounds) (n : ℕ) (events : List Event) (r : ReplayModel)
    → graph_replays.IsReplay words.program bound n events r
    → IsPrinted words bound n events r.steps r.halt (graph_printed words events r)
printed agree words bound n events r is =
    let k = agree.graphs words.program bound n events r is in
    record { world = k.0; replayed = k.1.0; are = lines_same agree words events r k.0 k.1.1 }

-- a replay over graphs of which this is printed
pub record IsGraphPrinted (words : Words) (bound : QueueBounds) (n : ℕ) (events : List Event) (steps : ℕ) (halt : Option Halt)
    (bytes : List ℕ) : Type 0 where
  pub world : graph_world.World
  pub replayed : graph_replays.IsReplay words.program bound n events (record { world = world; steps = steps; halt = halt })
  pub are : bytes ≡ graph_printed words events (record { world = world; steps = steps; halt = halt })

printed_too : Agreeing → (words : Words) (bound : QueueBounds) (n : ℕ) (events : List Event) (steps : ℕ) (halt : Option Halt) (bytes : List ℕ)
    → IsPrinted words bound n events steps halt bytes → IsGraphPrinted words bound n events steps halt bytes
printed_too agree words bound n events steps halt bytes x =
    let k = agree.statements words.program bound n events steps halt x.world x.replayed in
    record {
      world = k.0;
      replayed = k.1.0;
      are = x.are ∙ sym (lines_same agree words events (record { world = k.0; steps = steps; halt = halt }) x.world k.1.1);
    }

-- of a program, a method and a list of events one thing is printed, with one halt
pub one_printed : Agreeing
    → ((p : ProgramModel) (bound : QueueBounds) (n : ℕ) (events : List Event) (r s : ReplayModel)
    → graph_replays.IsReplay p bound n events r → graph_replays.IsReplay p bound n events s → r ≡ s)
    → (words : Words) (bound : QueueBounds) (n : ℕ) (events : List Event) (k l : ℕ) (h i : Option Halt) (a b : List ℕ)
    → IsPrinted words bound n events k h a → IsPrinted words bound n events l i b → (a ≡ b) × (h ≡ i)
one_printed agree one words bound n events k l h i a b x y =
    let v = printed_too agree words bound n events k h a x in
    let w = printed_too agree words bound n events l i b y in
    let same = one words.program bound n events (record { world = v.world; steps = k; halt = h })
    (record { world = w.world; steps = l; halt = i }) v.replayed w.replayed in
    (v.are ∙ (ap (graph_printed words events) same ∙ sym w.are), ap (λ (r : ReplayModel). r.halt) same)
