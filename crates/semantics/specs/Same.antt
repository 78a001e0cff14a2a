-- A world of statements and a world of graphs that are the same but for points.
use Rattle.std.specs.Prelude.{◌≡◌, ℕ, List, [], ◌∷◌}
use Rattle.program.specs.Programs.{ProgramModel}
use Rattle.semantics.specs.Laid.{IsAt}
use Rattle.semantics.specs.Rests.{Rest, Call}
use Rattle.machine.specs.Frames.{method_at, point_instruction}
use Rattle.machine.specs.Outcomes as graph
use Rattle.machine.specs.World as graph_world
use Rattle.semantics.specs.Worlds.{Frame, World, Outcome, Moved, Faulty, Waits, NoProcess, NoChoice}

-- the rest begins with a call
abbrev pub IsCall : Rest → Type 0
IsCall (Call place method arguments target next) = Unit {0}
IsCall _ = ⊥

module _ (p : ProgramModel) where
  -- at a point of a method this is still to do
  abbrev pub Stands : ℕ → ℕ → Rest → Type 0
  Stands method point rest = IsAt (point_instruction (method_at p method)) point rest

  -- a frame of a graph is at what the frame of statements has still to do
  pub record IsFrame (f : graph_world.Frame) (s : Frame) : Type 0 where
    pub is : f ≡ record { method = s.method; point = f.point; variables = s.variables }
    pub stands : Stands s.method f.point s.rest

  -- frames that wait are at a call
  abbrev pub AreWaiting : List graph_world.Frame → List Frame → Type 0
  AreWaiting [] [] = Unit {0}
  AreWaiting [] (s ∷ ss) = ⊥
  AreWaiting (f ∷ fs) [] = ⊥
  AreWaiting (f ∷ fs) (s ∷ ss) = IsFrame f s × (IsCall s.rest × AreWaiting fs ss)

  abbrev pub IsStack : List graph_world.Frame → List Frame → Type 0
  IsStack [] [] = Unit {0}
  IsStack [] (s ∷ ss) = ⊥
  IsStack (f ∷ fs) [] = ⊥
  IsStack (f ∷ fs) (s ∷ ss) = IsFrame f s × AreWaiting fs ss

  abbrev pub AreStacks : List (List graph_world.Frame) → List (List Frame) → Type 0
  AreStacks [] [] = Unit {0}
  AreStacks [] (s ∷ ss) = ⊥
  AreStacks (f ∷ fs) [] = ⊥
  AreStacks (f ∷ fs) (s ∷ ss) = IsStack f s × AreStacks fs ss

  pub record IsWorld (w : graph_world.World) (s : World) : Type 0 where
    pub processes : AreStacks w.processes s.processes
    pub blocks : w.blocks ≡ s.blocks

  -- the same outcome
  abbrev pub IsOutcome : graph.Outcome → Outcome → Type 0
  IsOutcome (graph.Moved w) (Moved s) = IsWorld w s
  IsOutcome (graph.Faulty x) (Faulty y) = x ≡ y
  IsOutcome graph.Waits Waits = Unit {0}
  IsOutcome graph.NoProcess NoProcess = Unit {0}
  IsOutcome graph.NoChoice NoChoice = Unit {0}
  IsOutcome _ _ = ⊥
